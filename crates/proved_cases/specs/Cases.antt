-- The page's cases: for each, what the definitions give and what the page says.
use Rattle.std.specs.Prelude.{ℕ, zero, suc, ◌+◌, ◌-◌, ◌*◌, cond, List, [], ◌∷◌, ◌++◌, length, take, replicate, None, Some}
use Prim.Native.String.{String}
use Rattle.codec.specs.Ring.{Ring, ring_file, read_ring}
use Rattle.packet_codec.specs.Packet.{information, wire_octets}
use Rattle.parts.specs.declared.frame.Frame.TheVariants.{Token}
use Rattle.parts.specs.Frames.{acknowledges}
use Rattle.sent.specs.Round.{opening}
use Rattle.bench.specs.Calls.{queue}
use Rattle.bench.specs.Runs.{queued, stepping}
use Rattle.bench.specs.Text.{line_feed, text}
use Rattle.script.specs.Script.{output}
use Rattle.waiting.specs.Waiting.{spot_for, before, shorts, octets_on_wire, at_queue, its_request, foreign_request}

pub record Case : Type 0 where
  pub given : List ℕ
  pub page : List ℕ

-- n good addresses
unfoldable pub members : ℕ → List ℕ
members zero = []
members (suc n) = members n ++ (n + 1) * 2 ∷ []

-- with version 1 and every channel open
abbrev pub ring : ℕ → ℕ → ℕ → Ring
ring form n limit =
    record {
      form = form;
      n = n;
      limit = limit;
      version = 1;
      addresses = members n ++ replicate (64 - n) 0;
      channels = replicate n 255 ++ replicate (64 - n) 0;
    }

-- a ring file's first two octets and its length; then the number that reading it gives, N and R
file_in : ℕ → ℕ → ℕ → List ℕ
file_in form n limit = take 2 (ring_file (ring form n limit)) ++ length (ring_file (ring form n limit)) ∷ []

abbrev pub back_from : ℕ → ℕ → ℕ → List ℕ
back_from form n limit =
    let r = read_ring (ring_file (ring form n limit)) in
    r.number ∷ r.ring.n ∷ r.ring.limit ∷ []

-- octets on the wire of n octets of information
wire : ℕ → ℕ
wire n = wire_octets (information 1 0 0 n)

-- 1 where a token of number k to station 1 is acknowledged by a frame of number j from a station, else 0
acknowledged_by : ℕ → ℕ → ℕ → ℕ
acknowledged_by k j from = cond (acknowledges (Some (Token (opening 0 0 k None), 1)) from j) 1 0

-- the octets of lines of text
lines : List String → List ℕ
lines [] = []
lines (l ∷ ls) = text l ++ line_feed ∷ lines ls

-- what the bench prints for a script
bench : List String → List ℕ
bench script = output (lines script)

-- the short frames and the octets before a message's own frame, in the run that reaches the bound on a ring of n
waits : ℕ → List ℕ
waits n =
    let b = at_queue n 1 (queued (n - 1) foreign_request ∷ []) in
    let rows = before (spot_for b 0) (queue b 0 its_request).bench (stepping (2 * n + 3)) in
    shorts rows ∷ octets_on_wire rows ∷ []

-- the longest file of a form, read
abbrev pub longest_read : ℕ → Case
longest_read form = record { given = back_from form 64 15; page = 0 ∷ 64 ∷ 15 ∷ [] }

unfoldable pub other_cases : List Case
unfolding members file_in wire acknowledged_by lines bench waits
other_cases =
    record { given = file_in 1 3 2; page = 0x10 ∷ 0x88 ∷ 20 ∷ [] }
    ∷ record { given = back_from 1 3 2; page = 0 ∷ 3 ∷ 2 ∷ [] }
    ∷ record { given = file_in 1 64 15; page = 0x1F ∷ 0xFC ∷ 386 ∷ [] }
    ∷ record { given = file_in 2 64 15; page = 0x2F ∷ 0xFD ∷ 450 ∷ [] }
    ∷ record { given = wire 0 ∷ wire 38 ∷ wire 39 ∷ wire 1492 ∷ []; page = 72 ∷ 72 ∷ 73 ∷ 1526 ∷ [] }
    ∷ record { given = acknowledged_by 65535 0 1 ∷ acknowledged_by 65535 0 2 ∷ acknowledged_by 65535 1 1 ∷ []; page = 1 ∷ 1 ∷ 1 ∷ [] }
    -- 0, 1, 32,767 and 32,768 ahead: of 11, from the addressee, and of 65,535, from another
    ∷ record {
      given = acknowledged_by 11 11 1 ∷ acknowledged_by 11 12 1 ∷ acknowledged_by 11 32778 1 ∷ acknowledged_by 11 32779 1 ∷ [];
      page = 0 ∷ 1 ∷ 1 ∷ 0 ∷ [];
    }
    ∷ record {
      given = acknowledged_by 65535 65535 2 ∷ acknowledged_by 65535 0 2 ∷ acknowledged_by 65535 32766 2 ∷ acknowledged_by 65535 32767 2 ∷ [];
      page = 0 ∷ 1 ∷ 1 ∷ 0 ∷ [];
    }
    -- the ten frames
    ∷ record {
      given = bench ("ring 3" ∷ "queue 1 2 5 0 100" ∷ "queue 0 1 9 0 0" ∷ "step 9" ∷ []);
      page = lines
          ("no kind from to prio octets"
          ∷ "0 T 0 1 0 72"
          ∷ "1 T 1 2 5 72"
          ∷ "2 T 2 0 5 72"
          ∷ "3 G 0 1 5 72"
          ∷ "4 I 1 2 5 134"
          ∷ "5 T 2 0 0 72"
          ∷ "6 T 0 1 9 72"
          ∷ "7 T 1 2 9 72"
          ∷ "8 G 2 0 9 72"
          ∷ "9 I 0 1 9 72"
          ∷ []);
    }
    -- equal priorities at 1 and 2, master 0: 1 is granted
    ∷ record {
      given = bench ("ring 3" ∷ "queue 1 2 5 0 10" ∷ "queue 2 1 5 0 20" ∷ "step 4" ∷ []);
      page = lines
          ("no kind from to prio octets"
          ∷ "0 T 0 1 0 72"
          ∷ "1 T 1 2 5 72"
          ∷ "2 T 2 0 5 72"
          ∷ "3 G 0 1 5 72"
          ∷ "4 I 1 2 5 72"
          ∷ []);
    }
    -- the bound for N = 3
    ∷ record { given = waits 3; page = 7 ∷ 2030 ∷ [] }
    ∷ []

unfoldable pub cases : List Case
cases = longest_read 1 ∷ longest_read 2 ∷ other_cases
