-- Laws of reading a record: what is known of one that is whole, and what opening it holds. Assumes nothing.
use mathlib.Core.Path.{◌≡◌, refl, sym, ap, ◌∙◌}
use mathlib.Core.Bool.{Bool, true, false, cond, not, true≢false}
use mathlib.Core.List.{List, [], ◌∷◌, ◌++◌}
use Prim.Native.Nat.{ℕ, ◌≤◌}
use native.Mathlib.Omega.{arith}
use borrow.Author.Tests.{eq-eqb, eqb-true, not-true, not-false}
use lib.Dec.{eqb}
use lib.ListN.{length, take, drop, take-append-drop}
use lib.Seq.{length-take-le}
use Rattle.codec.specs.Bits.{bits}
use Rattle.codec.specs.Octets.{laid}
use Rattle.codec.specs.Ring.{RingRead, form, count, limit, member_at, addresses_of, filled, ring_of, listens}
use Rattle.codec.proofs.Laws.Bits.{bits_below}
use Rattle.codec.proofs.Laws.Ring.{HeadGood, head_good, head_passed, octets_most, read_zero, read_good, few_members, length_addresses, members_filled, members_laid}
use Rattle.codec.proofs.Laws.Front.{listens_front}
use Rattle.parts.specs.Choose.{pick, all_of}
use Rattle.parts.proofs.Laws.Tests.{held, hold}
use Rattle.wholeness.specs.Whole.{rest_blank, ring_good, whole}
use Rattle.station.specs.Stations.{made}
use Rattle.station.specs.declared.station.Station.{Station}
use Rattle.records.specs.Layout.{record_length, ring_room}
use Rattle.records.specs.Record.{Loaded, file_length, file_of, ring_from, station_from, station_of, fields_good, rests_good, octets_good, not_whole, read_record, Opened}
use Rattle.records.proofs.Laws.Rest.{blanks, whole_rests, station_rests}

abbrev pub whole_of : RingRead → Station → Loaded
whole_of r st = record { ok = true; ring = r.ring; station = st }

-- ---- a record that is whole

pub record_good : (s : List ℕ) → length s ≡ record_length → (ring_from s).number ≡ 0 → fields_good s ≡ true → whole (station_of s) ≡ true
    → read_record s ≡ whole_of (ring_from s) (station_of s)
unfolding read_record
record_good s sized good fields e = rw (eq-eqb (length s) record_length sized, eq-eqb (ring_from s).number 0 good, fields, e)

-- what is known of a record's octets that a station was loaded from
pub record WholeRecord (s : List ℕ) : Type 0 where
  pub sized : length s ≡ record_length
  pub good_ring : (ring_from s).number ≡ 0
  pub good_fields : fields_good s ≡ true
  pub good_station : whole (station_of s) ≡ true
  pub loaded : read_record s ≡ whole_of (ring_from s) (station_of s)

-- a check that the record passed
passed : (b : Bool) (rest : Loaded) → (cond b not_whole rest).ok ≡ true → (b ≡ false) × (rest.ok ≡ true)
passed true rest e = absurd (let z : ◌≡◌ {A = ℕ} 0 1 = cc e in omega arith)
passed false rest e = (refl, e)

pub whole_record : (s : List ℕ) → (read_record s).ok ≡ true → WholeRecord s
unfolding read_record
whole_record s e =
    let a = passed _ _ e in
    let b = passed _ _ a.1 in
    let c = passed _ _ b.1 in
    let d = passed _ _ c.1 in
    let h = eqb-true _ _ (not-false _ a.0) in
    let g = eqb-true _ _ (not-false _ b.0) in
    let f = not-false _ c.0 in
    let w = not-false _ d.0 in
    record { sized = h; good_ring = g; good_fields = f; good_station = w; loaded = record_good s h g f w }

-- ---- and one that is not

not_ok : (s : List ℕ) → (WholeRecord s → ⊥) → (read_record s).ok ≡ false
not_ok s n = go (read_record s).ok refl
  where
    go : (b : Bool) → (read_record s).ok ≡ b → b ≡ false
    go false e = refl
    go true e = absurd (n (whole_record s e))

-- whichever check fails, there is no station
failed : (b : Bool) (rest : Loaded) → (rest.ok ≡ false → rest ≡ not_whole) → (cond b not_whole rest).ok ≡ false → cond b not_whole rest ≡ not_whole
failed true rest h e = refl
failed false rest h e = h e

no_record : (s : List ℕ) → (read_record s).ok ≡ false → read_record s ≡ not_whole
unfolding read_record
no_record s =
    failed (not (eqb (length s) record_length)) _
    (failed (not (eqb (ring_from s).number 0)) _
    (failed (not (fields_good s)) _
    (failed (not (whole (station_of s))) (whole_of (ring_from s) (station_of s)) (λ e. absurd (true≢false e)))))

-- ---- the first two octets say the form, how many members there are, and the retry limit

pub form_front : (f t : List ℕ) → 2 ≤ length f → form (f ++ t) ≡ form f
unfolding bits
form_front [] t h = absurd (omega arith)
form_front (x ∷ []) t h = absurd (omega arith)
form_front (x ∷ y ∷ f) t h = refl

pub count_front : (f t : List ℕ) → 2 ≤ length f → count (f ++ t) ≡ count f
unfolding bits
count_front [] t h = absurd (omega arith)
count_front (x ∷ []) t h = absurd (omega arith)
count_front (x ∷ y ∷ f) t h = refl

limit_front : (f t : List ℕ) → 2 ≤ length f → limit (f ++ t) ≡ limit f
unfolding bits
limit_front [] t h = absurd (omega arith)
limit_front (x ∷ []) t h = absurd (omega arith)
limit_front (x ∷ y ∷ f) t h = refl

pub file_room : (s : List ℕ) → file_length s ≤ ring_room
file_room s = octets_most (form s) (count s) (omega (arith, bits_below s 4 6))

pub length_file : (s : List ℕ) → length s ≡ record_length → length (file_of s) ≡ file_length s
length_file s sized = length-take-le (file_length s) s (omega (arith, file_room s))

-- ---- the ring of a record whose octets are good

module _ (s : List ℕ) (sized : length s ≡ record_length) (good : (ring_from s).number ≡ 0) where
  ring_read : ring_from s ≡ record { number = 0; ring = ring_of (file_of s) }
  ring_read = read_good (file_of s) (read_zero (file_of s) good)

  file_split : file_of s ++ drop (file_length s) s ≡ s
  file_split = take-append-drop (file_length s) s

  file_long : 2 ≤ length (file_of s)
  file_long = rw (length_file s sized) (omega arith)

  file_count : count (file_of s) ≡ count s
  file_count = sym (count_front (file_of s) (drop (file_length s) s) file_long) ∙ ap count file_split

  pub ring_count : (ring_from s).ring.n ≡ count s
  unfolding ring_of
  ring_count = ap (λ (r : RingRead). r.ring.n) ring_read ∙ file_count

  ring_limit : (ring_from s).ring.limit ≡ limit s
  unfolding ring_of
  ring_limit =
      ap (λ (r : RingRead). r.ring.limit) ring_read ∙ sym (limit_front (file_of s) (drop (file_length s) s) file_long) ∙ ap limit file_split

  ring_members : take (count s) (ring_from s).ring.addresses ≡ addresses_of (file_of s) (count s)
  unfolding ring_of
  ring_members =
      ap (λ (r : RingRead). take (count s) r.ring.addresses) ring_read
      ∙ ap (λ (k : ℕ). take (count s) (filled (addresses_of (file_of s) k))) file_count
      ∙ members_filled (addresses_of (file_of s) (count s)) (count s) (length_addresses (file_of s) (count s))

-- ---- what is held of a whole record: n members in an array and a station

pub record Held (s addresses : List ℕ) (n : ℕ) (st : Station) : Type 0 where
  pub sized : length s ≡ record_length
  pub few : n ≤ 64
  pub ok : (read_record s).ok ≡ true
  pub members : take n addresses ≡ take (read_record s).ring.n (read_record s).ring.addresses
  pub station : st ≡ (read_record s).station

-- how many members it has, that its ring file is within it, and who listens, as its octets say it
module _ {s addresses : List ℕ} {n : ℕ} {st : Station} (h : Held s addresses n st) where
  whole_held : WholeRecord s
  whole_held = whole_record s h.ok

  pub held_count : length (take n addresses) ≡ count s
  held_count =
      let w = whole_held in
      ap length h.members
      ∙ ap (λ (x : Loaded). length (take x.ring.n x.ring.addresses)) w.loaded
      ∙ ap (λ (k : ℕ). length (take k (ring_from s).ring.addresses)) (ring_count s w.sized w.good_ring)
      ∙ ap length (ring_members s w.sized w.good_ring)
      ∙ length_addresses (file_of s) (count s)

  pub held_within : member_at s (count s) ≤ length s
  held_within = let room : file_length s ≤ ring_room = file_room s in omega (arith, room, h.sized)

  pub listens_held : (p channel : ℕ) → listens (ring_of s) p channel ≡ listens (read_record s).ring p channel
  listens_held p channel =
      let w = whole_held in
      let f : List ℕ = file_of s in
      let g : HeadGood f = head_good f (head_passed f (read_zero f w.good_ring)) in
      ap (λ (x : List ℕ). listens (ring_of x) p channel) (sym (file_split s w.sized w.good_ring))
      ∙ listens_front f (drop (file_length s) s) g.long p channel (rw g.sized (omega arith))
      ∙ ap (λ (x : RingRead). listens x.ring p channel) (sym (ring_read s w.sized w.good_ring))
      ∙ ap (λ (x : Loaded). listens x.ring p channel) (sym w.loaded)

-- ---- opening it, step by step

-- a station of no ring is not whole
none_whole : whole (made 0 0 0) ≡ false
unfolding whole ring_good all_of pick
none_whole = refl

pub not_opened : (s addresses : List ℕ) → (read_record s).ok ≡ false → Opened s addresses (made 0 0 0)
not_opened s addresses e =
    record {
      blank = (blanks 0 16, blanks 0 16);
      same_test = none_whole ∙ sym e;
      station = λ w. absurd (true≢false (sym w ∙ none_whole));
      members = λ w. absurd (true≢false (sym w ∙ none_whole));
    }

pub bad_length : (s : List ℕ) → (length s ≡ record_length → ⊥) → (read_record s).ok ≡ false
bad_length s n = not_ok s (λ w. n w.sized)

module _ (s : List ℕ) (sized : length s ≡ record_length) where
  -- what follows a list's messages is asked before the station is made: it would not be whole
  pub bad_octets : octets_good s ≡ false → (read_record s).ok ≡ false
  unfolding octets_good
  bad_octets e =
      not_ok s
      (λ w.
      true≢false
      (sym (hold _ (eq-eqb _ _ w.good_ring, (w.good_fields, (whole_rests s w.sized w.good_station, tt)))) ∙ e))

  module _ (good : octets_good s ≡ true) where
    good_ring : (ring_from s).number ≡ 0
    unfolding octets_good
    good_ring = eqb-true _ _ (held _ good).0

    good_fields : fields_good s ≡ true
    unfolding octets_good
    good_fields = (held _ good).1.0

    -- what reading its station requires
    pub good_rests : rests_good s ≡ true
    unfolding octets_good
    good_rests = (held _ good).1.1.0

    module _ (n r : ℕ) (st : Station) (from : st ≡ station_from s n r) where
      -- and what asking whether it is whole requires
      pub blank_enough : (rest_blank st.sends ≡ true) × (rest_blank st.receives ≡ true)
      blank_enough = rw from (station_rests s n r (omega arith) good_rests)

      module _ (counted : n ≡ count s) (limited : r ≡ limit s) where
        station_is : st ≡ station_of s
        station_is =
            from
            ∙ ap (λ (k : ℕ). station_from s k r) (counted ∙ sym (ring_count s sized good_ring))
            ∙ ap (station_from s (ring_from s).ring.n) (limited ∙ sym (ring_limit s sized good_ring))

        reads : whole st ≡ true → read_record s ≡ whole_of (ring_from s) (station_of s)
        reads e = record_good s sized good_ring good_fields (ap whole (sym station_is) ∙ e)

        test_is : (b : Bool) → whole st ≡ b → b ≡ (read_record s).ok
        test_is true e = sym (ap (λ (x : Loaded). x.ok) (reads e))
        test_is false e = sym (not_ok s (λ h. true≢false (sym h.good_station ∙ ap whole (sym station_is) ∙ e)))

        pub opened : (l addresses : List ℕ) → addresses ≡ laid l 0 (addresses_of (file_of s) (count (file_of s))) → Opened s addresses st
        opened l addresses read =
            let laid_over : addresses ≡ laid l 0 (addresses_of (file_of s) (count s)) =
            read ∙ ap (λ (k : ℕ). laid l 0 (addresses_of (file_of s) k)) (file_count s sized good_ring) in
            record {
              blank = blank_enough;
              same_test = test_is (whole st) refl;
              station = λ w. station_is ∙ ap (λ (x : Loaded). x.station) (sym (reads w));
              members = λ w.
                  ap (λ (x : Station). take x.n addresses) station_is
                  ∙ ap (λ (k : ℕ). take k addresses) (ring_count s sized good_ring)
                  ∙ members_laid (file_of s) l addresses (count s) laid_over
                  ∙ sym (ring_members s sized good_ring)
                  ∙ ap (λ (k : ℕ). take k (ring_from s).ring.addresses) (sym (ring_count s sized good_ring))
                  ∙ ap (λ (x : Loaded). take x.ring.n x.ring.addresses) (sym (reads w));
            }

-- ---- what the test of an opened record's station says of it

module _ {s addresses : List ℕ} {st : Station} (o : Opened s addresses st) {w : Bool} (asked : w ≡ whole st) where
  -- it is not whole: neither is the record
  pub none_held : not w ≡ true → (read_record s).ok ≡ false
  none_held e = sym o.same_test ∙ sym asked ∙ not-true _ e

  -- it is: so is the record, and its members and its station are held
  pub opened_held : not w ≡ false → Held s addresses st.n st
  opened_held e =
      let is : whole st ≡ true = sym asked ∙ not-false _ e in
      let ok : (read_record s).ok ≡ true = sym o.same_test ∙ is in
      let r = whole_record s ok in
      record {
        sized = r.sized;
        few = rw (ap (λ (x : Station). x.n) (o.station is ∙ ap (λ (l : Loaded). l.station) r.loaded)) (few_members (file_of s));
        ok = ok;
        members = o.members is;
        station = o.station is;
      }
