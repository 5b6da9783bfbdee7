-- What a making that is done says: the record's length, a good ring file, the station a member. Assumes nothing.
use mathlib.Core.Path.{◌≡◌, refl, ap, ◌∙◌}
use mathlib.Core.Bool.{Bool, true, false, not, cond}
use mathlib.Core.List.{List, ◌++◌, append-nil}
use Prim.Native.Nat.{ℕ, ◌+◌, ◌<◌, ◌≤◌}
use native.Mathlib.Omega.{arith}
use lib.Dec.{eqb}
use lib.ListN.{length, length-append, length-take, drop_of_length-le}
use borrow.Author.Tests.{eqb-true, eqb-false, not-false, not-true, ltb-true}
use Rattle.codec.specs.Octets.{laid}
use Rattle.codec.specs.Ring.{Ring, RingRead, read_ring, position, is_member, ring_of, others, limit}
use Rattle.codec.proofs.Laws.Bits.{bits_below}
use Rattle.codec.proofs.Laws.Ring.{few_members, read_zero, read_good, head_passed, head_good}
use Rattle.station.specs.declared.station.Station.{Station}
use Rattle.records.specs.Layout.{record_length}
use Rattle.records.specs.Record.{Loaded, station_octets, ring_octets, record_octets, file_of, read_record}
use Rattle.records.proofs.Laws.Sizes.{length_ring}
use Rattle.record_theorems.specs.Typed.{Typed}
use Rattle.record_theorems.proofs.Laws.Front.{file_fits}
use Rattle.record_theorems.proofs.Laws.Stations.{length_station}
use Rattle.records.proofs.Laws.Load.{whole_record}
use Rattle.driver_calls.proofs.Laws.Calls.{length_filled}
use Rattle.driver_calls.specs.Calls.{make_number, members_of, ring_in}

pub record GoodMaking (rec file : List ℕ) (own : ℕ) : Type 0 where
  pub sized : length rec ≡ record_length
  pub good : (read_ring file).number ≡ 0
  pub some_members : 2 ≤ (read_ring file).ring.n
  pub most_members : (read_ring file).ring.n ≤ 64
  pub some_retry : 1 ≤ (read_ring file).ring.limit
  pub most_retries : (read_ring file).ring.limit ≤ 15
  pub member : position (members_of (read_ring file).ring) own < (read_ring file).ring.n

-- ---- the tests

-- no test of three holds where their numbers are not 0
none_of_three : (a b c : Bool) (k : ℕ) → (b ≡ true → k ≡ 0 → ⊥) → cond a 35 (cond b k (cond c 8 0)) ≡ 0 → (a ≡ false) × ((b ≡ false) × (c ≡ false))
none_of_three true b c k h e = absurd (omega (arith, e))
none_of_three false true c k h e = absurd (h refl e)
none_of_three false false true k h e = absurd (omega (arith, e))
none_of_three false false false k h e = (refl, (refl, refl))

-- a good ring file's N from 2 (to 64, whatever the file), and its R from 1 to 15
pub record Limits (r : RingRead) : Type 0 where
  pub low : 2 ≤ r.ring.n
  pub first : 1 ≤ r.ring.limit
  pub most : r.ring.limit ≤ 15

pub limits : (file : List ℕ) → (read_ring file).number ≡ 0 → Limits (read_ring file)
unfolding ring_of
limits file e =
    let z = read_zero file e in
    let g = head_good file (head_passed file z) in
    let b = bits_below file 10 4 in
    let l : Limits (record { number = 0; ring = ring_of file }) =
    record {
      low = one_more (others file) g.another;
      first = above (limit file) g.some_limit;
      most = omega (arith, b);
    } in
    rw (read_good file z) l
  where
    one_more : (k : ℕ) → (k ≡ 0 → ⊥) → 2 ≤ k + 1
    one_more k h = go (eqb k 0) refl
      where
        go : (t : Bool) → eqb k 0 ≡ t → 2 ≤ k + 1
        go true q = absurd (h (eqb-true _ _ q))
        go false q = omega (arith, eqb-false k 0 q)

    above : (k : ℕ) → (k ≡ 0 → ⊥) → 1 ≤ k
    above k h = omega (arith, one_more k h)

pub good_making : (rec file : List ℕ) (own : ℕ) → make_number rec file own ≡ 0 → GoodMaking rec file own
unfolding make_number
good_making rec file own e =
    let ms : List ℕ = members_of (read_ring file).ring in
    let t = none_of_three (not (eqb (length rec) record_length)) (not (eqb (read_ring file).number 0)) (not (is_member ms own)) (read_ring file).number
    (λ b z. eqb-false _ _ (not-true _ b) z) e in
    let good : (read_ring file).number ≡ 0 = eqb-true _ _ (not-false _ t.1.0) in
    let l = limits file good in
    record {
      sized = eqb-true _ _ (not-false _ t.0);
      good = good;
      some_members = l.low;
      most_members = few_members file;
      some_retry = l.first;
      most_retries = l.most;
      member = omega (arith, ltb-true (position ms own) (length ms) (not-false _ t.1.1), length-take (read_ring file).ring.n (read_ring file).ring.addresses);
    }

-- ---- a record written whole

pub laid_whole : (rec x : List ℕ) → length rec ≡ length x → laid rec 0 x ≡ x
laid_whole rec x e = ap (λ (l : List ℕ). x ++ l) (drop_of_length-le rec {i = 0 + length x} (omega (arith, e))) ∙ append-nil x

pub length_record : (file : List ℕ) (s : Station) → (read_ring file).number ≡ 0 → Typed s → length (record_octets file s) ≡ record_length
length_record file s e t =
    length-append (ring_octets file) (station_octets s) ∙ omega (arith, length_ring file (file_fits file e), length_station s t)

-- ---- the ring that a record holds has as many members as its station says

pub members_count : (rec : List ℕ) (s : Station) → (read_record rec).ok ≡ true → s.n ≡ (read_record rec).ring.n → length (ring_in rec) ≡ s.n
members_count rec s ok e =
    let w = whole_record rec ok in
    let r : Ring = (read_record rec).ring in
    let ring : r ≡ (read_ring (file_of rec)).ring = ap (λ (l : Loaded). l.ring) w.loaded in
    let few : r.n ≤ 64 = rw ring (few_members (file_of rec)) in
    let long : length r.addresses ≡ 64 = ap (λ (q : Ring). length q.addresses) ring ∙ length_filled (file_of rec) w.good_ring in
    omega (arith, length-take r.n r.addresses, few, long, e)
