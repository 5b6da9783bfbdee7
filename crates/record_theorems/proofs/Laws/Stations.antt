-- A station's octets in a record, field by field. Assumes nothing.
use mathlib.Core.Path.{◌≡◌, refl, ap, ◌∙◌}
use mathlib.Core.Bool.{true}
use mathlib.Core.List.{List, [], ◌∷◌, ◌++◌}
use Prim.Native.Nat.{ℕ, ◌+◌, ◌-◌, ◌<◌}
use native.Mathlib.Omega.{arith}
use lib.ListN.{length, length-append}
use Rattle.codec.specs.Octets.{Octets, number_at}
use Rattle.station.specs.declared.station.Station.{Station}
use Rattle.records.specs.Layout.{own_at, lost_at, given_up_at, live_at, sends_at, receives_at, record_length}
use Rattle.records.specs.Fields.{turn_at, turn_good, turn_octets, live_from, flags_good, live_octets, messages_at, messages_octets}
use Rattle.records.specs.Record.{counts_octets, counts_at, head_octets, lists_octets, station_octets, station_from}
use Rattle.records.proofs.Laws.Sizes.{length_head, length_list}
use Rattle.record_theorems.specs.Typed.{Typed}
use Rattle.record_theorems.proofs.Laws.Goes.{Goes, goes_join, goes_first, goes_second}
use Rattle.record_theorems.proofs.Laws.Numbers.{numbers_read, numbers_written}
use Rattle.record_theorems.proofs.Laws.Turns.{TurnRead, turn_written, turn_reads}
use Rattle.record_theorems.proofs.Laws.Flags.{LiveRead, live_written, live_reads}
use Rattle.record_theorems.proofs.Laws.Lists.{list_written, list_reads}

pub length_station : (s : Station) → Typed s → length (station_octets s) ≡ record_length - own_at
length_station s t =
    let lists : length (lists_octets s) ≡ record_length - sends_at =
    length-append (messages_octets s.sends) (messages_octets s.receives)
    ∙ omega (arith, length_list s.sends t.sends.slots, length_list s.receives t.receives.slots) in
    length-append (head_octets s) (lists_octets s)
    ∙ omega (arith, length_head s t.seats, lists)

-- ---- what reads is written

pub station_written : (s : List ℕ) (n limit : ℕ) → Octets s → length s ≡ record_length → turn_good s ≡ true → flags_good s live_at 64 ≡ true
    → Goes s own_at (station_octets (station_from s n limit)) record_length
station_written s n limit o sized turn flags =
    let turn_here : Goes s own_at (turn_octets (number_at s own_at 1) (turn_at s)) lost_at = turn_written s o (omega arith) turn in
    let counts_here : Goes s lost_at (counts_octets (counts_at s)) live_at =
    numbers_written s lost_at o ((4, number_at s lost_at 4) ∷ (4, number_at s given_up_at 4) ∷ []) live_at refl (omega arith) (refl, (refl, tt)) in
    let live_here : Goes s live_at (live_octets (live_from s)) sends_at = live_written s o (omega arith) flags in
    let sends_here : Goes s sends_at (messages_octets (messages_at s sends_at)) receives_at = list_written s sends_at receives_at o refl (omega arith) in
    let receives_here : Goes s receives_at (messages_octets (messages_at s receives_at)) record_length = list_written s receives_at record_length o refl (omega arith) in
    goes_join s (head_octets (station_from s n limit)) (lists_octets (station_from s n limit)) own_at sends_at record_length
    (goes_join s (turn_octets (number_at s own_at 1) (turn_at s)) (counts_octets (counts_at s) ++ live_octets (live_from s)) own_at lost_at sends_at
    turn_here
    (goes_join s (counts_octets (counts_at s)) (live_octets (live_from s)) lost_at live_at sends_at counts_here live_here))
    (goes_join s (messages_octets (messages_at s sends_at)) (messages_octets (messages_at s receives_at)) sends_at receives_at record_length sends_here receives_here)

-- ---- what is written reads

pub record StationRead (s : List ℕ) (st : Station) : Type 0 where
  pub station_read : station_from s st.n st.limit ≡ st
  pub turn_good_lem : turn_good s ≡ true
  pub flags_good_lem : flags_good s live_at 64 ≡ true

pub station_reads : (s : List ℕ) (st : Station) (next : ℕ) → Typed st → st.sends.len < 256 → st.receives.len < 256 → Goes s own_at (station_octets st) next → StationRead s st
station_reads s st next t few few' p =
    let turn_is : List ℕ = turn_octets st.own st.turn in
    let counts_are : List ℕ = counts_octets st.counts in
    let live_is : List ℕ = live_octets st.live in
    let sends_are : List ℕ = messages_octets st.sends in
    let receives_are : List ℕ = messages_octets st.receives in
    let long : own_at + length (head_octets st) ≡ sends_at = ap (λ (n : ℕ). own_at + n) (length_head st t.seats) in
    let head : Goes s own_at (head_octets st) sends_at = goes_first s (head_octets st) (lists_octets st) own_at sends_at next long p in
    let lists : Goes s sends_at (lists_octets st) next = goes_second s (head_octets st) (lists_octets st) own_at sends_at next long p in
    let behind : Goes s lost_at (counts_are ++ live_is) sends_at = goes_second s turn_is (counts_are ++ live_is) own_at lost_at sends_at refl head in
    let long' : sends_at + length sends_are ≡ receives_at = ap (λ (n : ℕ). sends_at + n) (length_list st.sends t.sends.slots) in
    let turn : TurnRead s st.own st.turn =
    turn_reads s st.own st.turn lost_at t.own_u8 t.turn (goes_first s turn_is (counts_are ++ live_is) own_at lost_at sends_at refl head) in
    let counts =
    numbers_read s lost_at ((4, st.counts.lost) ∷ (4, st.counts.givenup) ∷ []) live_at (t.lost_u32, (t.givenup_u32, tt)) (goes_first s counts_are live_is lost_at live_at sends_at refl behind) in
    let live : LiveRead s st.live = live_reads s st.live sends_at t.seats (goes_second s counts_are live_is lost_at live_at sends_at refl behind) in
    let sends : messages_at s sends_at ≡ st.sends =
    list_reads s sends_at st.sends receives_at t.sends few (goes_first s sends_are receives_are sends_at receives_at next long' lists) in
    let receives : messages_at s receives_at ≡ st.receives =
    list_reads s receives_at st.receives next t.receives few' (goes_second s sends_are receives_are sends_at receives_at next long' lists) in
    record {
      station_read =
          λ i.
          record {
            n = st.n;
            limit = st.limit;
            own = turn.own_read i;
            live = live.live_read i;
            sends = sends i;
            receives = receives i;
            turn = turn.turn_read i;
            counts = record { lost = counts.0 i; givenup = counts.1.0 i };
          };
      turn_good_lem = turn.good;
      flags_good_lem = live.good;
    }
