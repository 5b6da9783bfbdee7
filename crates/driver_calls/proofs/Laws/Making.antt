-- Laws of making a station's record: the number in its order, and what is left. Assumes nothing.
use mathlib.Core.Path.{◌≡◌, sym, ap, ◌∙◌}
use mathlib.Core.Bool.{true, false}
use mathlib.Core.List.{List}
use Prim.Native.Nat.{ℕ, ◌<◌, ◌≤◌}
use native.Mathlib.Omega.{arith}
use borrow.Author.Tests.{eq-eqb, ne_eqb, lt-ltb, le-ltb}
use lib.ListN.{length, take}
use Rattle.codec.specs.Octets.{laid}
use Rattle.codec.specs.Ring.{Ring, RingRead, count, addresses_of, position, is_member, ring_refusal, read_ring}
use Rattle.codec.specs.Ring.{ring_of as ring_is}
use Rattle.codec.proofs.Laws.Bits.{bits_below}
use Rattle.codec.proofs.Laws.Ring.{HeadGood, head_good, head_passed, length_addresses, members_filled, members_laid, read_number, read_good}
use Rattle.station.specs.Stations.{made}
use Rattle.records.specs.Layout.{record_length, ring_room}
use Rattle.records.specs.Record.{record_octets}
use Rattle.records.proofs.Laws.Load.{file_room}
use Rattle.driver_calls.specs.Calls.{members_of, ring_of, make_number, Making}
use Rattle.driver_calls.proofs.Laws.Calls.{kept_old}

-- ---- what is read of a ring file

-- how many members a file says that there are
pub few_counted : (file : List ℕ) (n : ℕ) → n ≡ count file → n ≤ 64
few_counted file n e = omega (arith, bits_below file 4 6)

module _ (file : List ℕ) (number : ℕ) (same : number ≡ ring_refusal file) (good : number ≡ 0) where
  abbrev not_refused : ring_refusal file ≡ 0
  not_refused = sym same ∙ good

  pub head_read : HeadGood file
  head_read = head_good file (head_passed file not_refused)

  pub file_fits : length file ≤ ring_room
  file_fits = omega (arith, head_read.sized, file_room file)

  ring_read : (read_ring file).ring ≡ ring_is file
  ring_read = ap (λ (x : RingRead). x.ring) (read_good file not_refused)

  members_read : ring_of file ≡ addresses_of file (count file)
  unfolding ring_is
  members_read = ap members_of ring_read ∙ members_filled (addresses_of file (count file)) (count file) (length_addresses file (count file))

-- ---- the number and the record

module _ (rec file : List ℕ) (own : ℕ) where
  not_made : (r : ℕ) → r ≡ make_number rec file own → (r ≡ 0 → ⊥) → Making rec file own r rec
  not_made r e n = record { answer = e; record_is = kept_old r _ _ n }

  pub no_record : (length rec ≡ record_length → ⊥) → Making rec file own 35 rec
  unfolding make_number
  no_record n = not_made 35 (rw (ne_eqb (length rec) record_length n)) (λ z. omega arith)

  module _ (sized : length rec ≡ record_length) (number : ℕ) (same : number ≡ ring_refusal file) where
    abbrev number_is : number ≡ (read_ring file).number
    number_is = same ∙ sym (read_number file)

    pub no_ring : (number ≡ 0 → ⊥) → Making rec file own number rec
    unfolding make_number
    no_ring n =
        let n' : (read_ring file).number ≡ 0 → ⊥ = λ e. n (number_is ∙ e) in
        not_made number (number_is ∙ rw (eq-eqb (length rec) record_length sized, ne_eqb (read_ring file).number 0 n')) n

    module _ (good : number ≡ 0) (n : ℕ) (counted : n ≡ count file) (l addresses : List ℕ) (read : addresses ≡ laid l 0 (addresses_of file (count file)))
        (ms : List ℕ) (start : ms ≡ take n addresses) (seat : ℕ) (seat-is : seat ≡ position ms own) where
      abbrev members_are : ms ≡ ring_of file
      members_are = start ∙ ap (λ (k : ℕ). take k addresses) counted ∙ members_laid file l addresses (count file) read ∙ sym (members_read file number same good)

      abbrev seat_in : seat ≡ position (ring_of file) own
      seat_in = seat-is ∙ ap (λ (o : List ℕ). position o own) members_are

      abbrev count_is : length (ring_of file) ≡ n
      count_is = ap length (members_read file number same good) ∙ length_addresses file (count file) ∙ sym counted

      pub no_seat : n ≤ seat → Making rec file own 8 rec
      unfolding make_number
      no_seat h =
          let m : is_member (ring_of file) own ≡ false = le-ltb (position (ring_of file) own) (length (ring_of file)) (omega (arith, seat_in, count_is)) in
          not_made 8 (rw (eq-eqb (length rec) record_length sized, sym number_is ∙ good, m)) (λ z. omega arith)

      -- the retry limit is none of the octets
      pub all_made : seat < n → (rec' : List ℕ) → rec' ≡ laid rec 0 (record_octets file (made n 0 seat)) → Making rec file own 0 rec'
      unfolding make_number ring_is
      all_made h rec' e =
          let m : is_member (ring_of file) own ≡ true = lt-ltb (position (ring_of file) own) (length (ring_of file)) (omega (arith, seat_in, count_is)) in
          let ring : (read_ring file).ring ≡ ring_is file = ring_read file number same good in
          let size : (read_ring file).ring.n ≡ n = ap (λ (x : Ring). x.n) ring ∙ sym counted in
          record {
            answer = rw (eq-eqb (length rec) record_length sized, sym number_is ∙ good, m);
            record_is = e ∙ ap (λ (k : ℕ). laid rec 0 (record_octets file (made k 0 seat))) (sym size) ∙ ap (λ (p : ℕ). laid rec 0 (record_octets file (made (read_ring file).ring.n 0 p))) seat_in;
          }
