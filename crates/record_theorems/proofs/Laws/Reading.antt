-- A record that reads, part by part; and when one reads as a station. Assumes nothing.
use mathlib.Core.Path.{◌≡◌, refl, sym, ap, ◌∙◌}
use mathlib.Core.Bool.{Bool, true, false, cond, not}
use mathlib.Core.List.{List, [], ◌∷◌, ◌++◌, append-nil}
use Prim.Native.Nat.{ℕ, ◌<◌, ◌≤◌}
use native.Mathlib.Omega.{arith}
use borrow.Author.Tests.{eqb-true, not-false, leb-true}
use lib.Dec.{eqb}
use lib.ListN.{length, length-append}
use lib.Seq.{drop_at, drop-length}
use Rattle.codec.specs.Order.{first_of}
use Rattle.codec.specs.Ring.{RingRead, read_ring}
use Rattle.codec.proofs.Laws.Order.{NoneHolds}
use Rattle.wholeness.specs.Whole.{whole, lists_good, list_good}
use Rattle.station.specs.declared.station.Station.{Station}
use Rattle.records.specs.Layout.{ring_room, own_at, live_at, record_length}
use Rattle.records.specs.Fields.{turn_good, flags_good}
use Rattle.records.specs.Record.{Loaded, station_octets, file_of, ring_from, pad_good, station_from, station_of, fields_good, not_whole, read_record}
use Rattle.parts.proofs.Laws.Tests.{held}
use Rattle.records.proofs.Laws.Load.{whole_of, record_good}
use Rattle.record_theorems.specs.RoundTrip.{OfRing, ReadsAs}
use Rattle.record_theorems.specs.Typed.{Typed}
use Rattle.record_theorems.proofs.Laws.Goes.{Goes}
use Rattle.parts.proofs.Laws.Tests.{hold}
use Rattle.record_theorems.proofs.Laws.Front.{front_file, front_pad}
use Rattle.record_theorems.proofs.Laws.Stations.{StationRead, station_reads, length_station}

-- ---- a record that reads

pub record Parts (s : List ℕ) : Type 0 where
  pub sized : length s ≡ record_length
  pub ring : (ring_from s).number ≡ 0
  pub pad : pad_good s ≡ true
  pub turn : turn_good s ≡ true
  pub flags : flags_good s live_at 64 ≡ true
  pub is_whole : whole (station_of s) ≡ true

-- each test's answer is that there is no record
abbrev NotOk : List (Bool × Loaded) → Type 0
NotOk [] = Unit {0}
NotOk (t ∷ ts) = (t.1.ok ≡ false) × NotOk ts

none_holds : (d : Loaded) (ts : List (Bool × Loaded)) → NotOk ts → (first_of d ts).ok ≡ true → NoneHolds ts
none_holds d [] n e = tt
none_holds d (t ∷ ts) n e = go t.0 refl e (none_holds d ts n.1)
  where
    go : (b : Bool) → t.0 ≡ b → (cond b t.1 (first_of d ts)).ok ≡ true → ((first_of d ts).ok ≡ true → NoneHolds ts) → (t.0 ≡ false) × NoneHolds ts
    go true h e' rest = absurd (mathlib.Core.Bool.false≢true (sym n.0 ∙ e'))
    go false h e' rest = (h, rest e')

pub parts : (s : List ℕ) → (read_record s).ok ≡ true → Parts s
unfolding read_record fields_good
parts s e =
    let n =
    none_holds (record { ok = true; ring = (ring_from s).ring; station = station_of s })
    ((not (eqb (length s) record_length), not_whole)
    ∷ (not (eqb (ring_from s).number 0), not_whole)
    ∷ (not (fields_good s), not_whole)
    ∷ (not (whole (station_of s)), not_whole)
    ∷ [])
    (refl, (refl, (refl, (refl, tt)))) e in
    let fields = held _ (not-false _ n.1.1.0) in
    record {
      sized = eqb-true _ _ (not-false _ n.0);
      ring = eqb-true _ _ (not-false _ n.1.0);
      pad = fields.0;
      turn = fields.1.0;
      flags = fields.1.1.0;
      is_whole = not-false _ n.1.1.1.0;
    }

pub parts_read : (s : List ℕ) → Parts s → read_record s ≡ whole_of (ring_from s) (station_of s)
unfolding fields_good
parts_read s p = record_good s p.sized p.ring (hold _ (p.pad, (p.turn, (p.flags, tt)))) p.is_whole

-- ---- a record that reads as a station

pub reads_as : (rec : List ℕ) (q : RingRead) (s : Station) → read_record rec ≡ whole_of q s → ReadsAs rec q.ring s
reads_as rec q s e =
    record { ok = ap (λ (l : Loaded). l.ok) e; ring = ap (λ (l : Loaded). l.ring) e; station = ap (λ (l : Loaded). l.station) e }

-- a whole station's lists have at most 16 messages
few : (s : Station) → whole s ≡ true → (s.sends.len < 256) × (s.receives.len < 256)
unfolding whole lists_good list_good
few s w =
    let lists = held _ (held _ w).1.1.1.0 in
    let sends : s.sends.len ≤ 16 = leb-true _ _ (held _ lists.0).0 in
    let receives : s.receives.len ≤ 16 = leb-true _ _ (held _ lists.1.0).0 in
    (omega arith, omega arith)

-- what stands in front is a good ring file and its zeros
module _ (f : List ℕ) (s : Station) (sized : length f ≡ ring_room) (pad : pad_good f ≡ true) (good : (read_ring (file_of f)).number ≡ 0)
    (of-ring : OfRing (read_ring (file_of f)).ring s) (w : whole s ≡ true) (t : Typed s) where
  x : List ℕ
  x = station_octets s

  all : List ℕ
  all = f ++ x

  all_sized : length all ≡ record_length
  unfolding all x
  all_sized = length-append f x ∙ omega (arith, length_station s t)

  stands : Goes all own_at x (length all)
  unfolding all
  stands = drop_at f x own_at sized ∙ sym (append-nil x) ∙ ap (λ (l : List ℕ). x ++ l) (sym (drop-length (f ++ x)))

  fields : StationRead all s
  unfolding x
  fields = station_reads all s (length all) t (few s w).0 (few s w).1 stands

  ring_is : ring_from all ≡ read_ring (file_of f)
  unfolding all
  ring_is = ap read_ring (front_file f x sized)

  station_is : station_of all ≡ s
  station_is =
      ap (λ (q : RingRead). station_from all q.ring.n q.ring.limit) ring_is
      ∙ ap (λ (n : ℕ). station_from all n (read_ring (file_of f)).ring.limit) (sym of-ring.n_same)
      ∙ ap (station_from all s.n) (sym of-ring.limit_same)
      ∙ fields.station_read

  all_parts : Parts all
  unfolding all
  all_parts =
      record {
        sized = all_sized;
        ring = ap (λ (q : RingRead). q.number) ring_is ∙ good;
        pad = front_pad f x sized ∙ pad;
        turn = fields.turn_good_lem;
        flags = fields.flags_good_lem;
        is_whole = ap whole station_is ∙ w;
      }

  pub front_reads : read_record (f ++ station_octets s) ≡ whole_of (read_ring (file_of f)) s
  unfolding all x
  front_reads =
      parts_read all all_parts ∙ ap (λ (q : RingRead). whole_of q (station_of all)) ring_is ∙ ap (whole_of (read_ring (file_of f))) station_is
