-- What a ring file's checks let pass is a good ring. Assumes nothing.
use mathlib.Core.Path.{◌≡◌, refl, sym, ap, ◌∙◌}
use mathlib.Core.Bool.{Bool, true, false, ◌||◌}
use mathlib.Core.List.{List, [], ◌∷◌}
use Prim.Native.Nat.{ℕ, zero, suc, ◌/◌, ◌%◌, ◌^◌, ◌<◌, ◌≤◌, zero-le, suc-le-suc}
use native.Mathlib.Nat.{mod-lt}
use native.Mathlib.Numerals.{add-one}
use native.Mathlib.Omega.{arith}
use borrow.Author.Tests.{ltb-false, eq-eqb, eqb-true, eqb-false}
use lib.Dec.{eqb}
use lib.ListN.{length, take, drop, get_or}
use lib.Seq.{length-take-le, get_or-take}
use Rattle.codec.specs.Order.{first_of}
use Rattle.codec.specs.Ring.{others, count, limit, addresses_of, bad_address, position, address_tests, addresses_tests, address_refusal, addresses_refusal, ring_refusal}
use Rattle.codec.proofs.Laws.Order.{none_holds}
use Rattle.codec.proofs.Laws.Bits.{bits_below}
use Rattle.codec.proofs.Laws.Ring.{HeadGood, addresses_fit, head_good, head_passed, refused_late, addresses_more, addresses_here, length_addresses}
use Rattle.rtep_theorems.specs.Rings.{GoodRing}

-- a member has its place
found : (ms : List ℕ) (a j : ℕ) → j < length ms → get_or ms j 0 ≡ a → position ms a < length ms
unfolding position
found [] a j h e = absurd (omega arith)
found (m ∷ ms) a zero h e = rw (eq-eqb m a e) (suc-le-suc zero-le)
found (m ∷ ms) a (suc j) h e = go (eqb m a) (found ms a j (omega arith) e)
  where
    go : (b : Bool) → position ms a < length ms → mathlib.Core.Bool.cond b 0 (suc (position ms a)) < suc (length ms)
    go true l = suc-le-suc zero-le
    go false l = suc-le-suc l

neither : (a b : Bool) → a || b ≡ false → (a ≡ false) × (b ≡ false)
neither true b e = absurd (mathlib.Core.Bool.false≢true (sym e))
neither false b e = (refl, e)

bit_zero : (k : ℕ) → (k % 2 ≡ 1 → ⊥) → k % 2 ≡ 0
bit_zero k n = let h : k % 2 < 2 = mod-lt k (suc-le-suc zero-le) in go (k % 2) refl h
  where
    go : (m : ℕ) → k % 2 ≡ m → m < 2 → k % 2 ≡ 0
    go zero e h = e
    go (suc zero) e h = absurd (n e)
    go (suc (suc m)) e h = absurd (omega arith)

module _ (ms : List ℕ) (pass : addresses_refusal ms ≡ 0) where
  here : (i : ℕ) → i < length ms → first_of 0 (addresses_tests (take i ms) (drop i ms)) ≡ 0 → address_refusal (take i ms) (get_or ms i 0) ≡ 0
  here i h e = go (eqb (address_refusal (take i ms) (get_or ms i 0)) 0) refl
    where
      go : (b : Bool) → eqb (address_refusal (take i ms) (get_or ms i 0)) 0 ≡ b → address_refusal (take i ms) (get_or ms i 0) ≡ 0
      go true q = eqb-true _ _ q
      go false q = sym (addresses_here ms i h (eqb-false _ _ q)) ∙ e

  from_here : (i : ℕ) → i ≤ length ms → first_of 0 (addresses_tests (take i ms) (drop i ms)) ≡ 0
  unfolding addresses_refusal
  from_here zero h = pass
  from_here (suc i) h =
      let e = from_here i (omega arith) in
      ap (λ (k : ℕ). first_of 0 (addresses_tests (take k ms) (drop k ms))) (sym (add-one i)) ∙ sym (addresses_more ms i h (here i h e)) ∙ e

  -- what is known of one address
  pub record Passed (i : ℕ) : Type 0 where
    pub not_zero : get_or ms i 0 ≡ 0 → ⊥
    pub one_station : get_or ms i 0 / 2 ^ 40 % 2 ≡ 0
    pub nobody : (j : ℕ) → j < i → get_or ms j 0 ≡ get_or ms i 0 → ⊥

  pub passed : (i : ℕ) → i < length ms → Passed i
  unfolding address_refusal bad_address
  passed i h =
      let a : ℕ = get_or ms i 0 in
      let n = none_holds 0 (address_tests (take i ms) a) ((λ z. omega (arith, z)), ((λ z. omega (arith, z)), tt)) (here i h (from_here i (omega arith))) in
      let bad = neither (eqb a 0) (eqb (a / 2 ^ 40 % 2) 1) n.0 in
      let front : length (take i ms) ≡ i = length-take-le i ms (omega arith) in
      let none : length (take i ms) ≤ position (take i ms) a = ltb-false _ _ n.1.0 in
      record {
        not_zero = eqb-false _ _ bad.0;
        one_station = bit_zero (a / 2 ^ 40) (eqb-false _ _ bad.1);
        nobody = λ j b e. omega (arith, none, found (take i ms) a j (omega (arith, front)) (get_or-take i ms j 0 b ∙ e));
      }

pub read_ring_good : (file : List ℕ) → ring_refusal file ≡ 0 → GoodRing (limit file) (addresses_of file (count file))
read_ring_good file z =
    let e = head_passed file z in
    let g : HeadGood file = head_good file e in
    let ms : List ℕ = addresses_of file (count file) in
    let long : length ms ≡ count file = length_addresses file (count file) in
    let pass : addresses_refusal ms ≡ 0 = sym (refused_late file e) ∙ z in
    let many : others file < 64 = bits_below file 4 6 in
    let most : limit file < 16 = bits_below file 10 4 in
    let another : 1 ≤ others file = at_least (others file) g.another in
    let some : 1 ≤ limit file = at_least (limit file) g.some_limit in
    record {
      some_members = omega (arith, long);
      most_members = omega (arith, long);
      some_retry = some;
      most_retries = omega arith;
      good = λ i h. record { fits = addresses_fit file (count file) i; not_zero = (passed ms pass i h).not_zero; one_station = (passed ms pass i h).one_station };
      apart = λ i j b h. (passed ms pass j h).nobody i b;
    }
  where
    at_least : (k : ℕ) → (k ≡ 0 → ⊥) → 1 ≤ k
    at_least zero n = absurd (n refl)
    at_least (suc k) n = suc-le-suc zero-le
