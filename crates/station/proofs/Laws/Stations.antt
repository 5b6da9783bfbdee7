-- Laws of the station's fields. Assumes nothing.
use mathlib.Core.Path.{◌≡◌}
use Prim.Native.Nat.{ℕ, ◌+◌, ◌-◌, ◌<◌, ◌≤◌}
use borrow.Author.Tests.{le-leb, lt-leb}
use Rattle.parts.specs.declared.live.Live.{Live}
use Rattle.parts.specs.declared.list.Messages.{Messages}
use Rattle.std.specs.Prelude.{None}
use Rattle.station.specs.declared.station.Station.{Station}
use Rattle.parts.specs.Messages.{none}
use Rattle.parts.specs.Live.{full}
use Rattle.station.specs.Stations.{new_turn, new_counts, made, add_up_to, answered}
use Rattle.parts.proofs.Laws.Choose.{pick_true, pick_false}

pub add_inside : (c k : ℕ) → k ≤ 4294967295 - c → add_up_to c k ≡ c + k
unfolding add_up_to
add_inside c k h = pick_true (c + k) 4294967295 (le-leb k (4294967295 - c) h)

pub add_past : (c k : ℕ) → 4294967295 - c < k → add_up_to c k ≡ 4294967295
unfolding add_up_to
add_past c k h = pick_false (c + k) 4294967295 (lt-leb k (4294967295 - c) h)

-- a station of these parts is the one as made
pub made_of_lem : (n limit own : ℕ) (l : Live) (a b : Messages) → l ≡ full n → a ≡ none → b ≡ none
    → record {
      n = n;
      limit = limit;
      own = own;
      live = l;
      sends = a;
      receives = b;
      turn = new_turn;
      counts = new_counts;
    } ≡ made n limit own
made_of_lem n limit own l a b p q r = λ i.
    record {
      n = n;
      limit = limit;
      own = own;
      live = p i;
      sends = q i;
      receives = r i;
      turn = new_turn;
      counts = new_counts;
    }

-- an answer with an empty list of messages given up, nothing else told
pub answered_of : (s : Station) (number : ℕ) (g : Messages) → g ≡ none
    → record { station = s; number = number; sent = None; struck = None; gone = g; payload = None } ≡ answered s number
answered_of s number g p = λ i. record { station = s; number = number; sent = None; struck = None; gone = p i; payload = None }
