-- Laws of a good ring's addresses: of 48 bits, none zero, each at one position only. Assumes nothing.
use mathlib.Core.Path.{◌≡◌, refl, sym, ap, ◌∙◌}
use mathlib.Core.Bool.{Bool, true, false, cond, false≢true, ◌||◌}
use mathlib.Core.List.{List, [], ◌∷◌, ◌++◌, append-nil, append_assoc}
use Prim.Native.Nat.{ℕ, zero, suc, ◌/◌, ◌%◌, ◌^◌, ◌<◌, ◌≤◌}
use native.Mathlib.Omega.{arith}
use borrow.Author.Tests.{eq-eqb, ltb-false, le-ltb}
use lib.Dec.{eqb, ltb}
use lib.ListN.{length, take, get_or}
use Rattle.codec.specs.Ring.{RingRead, position, is_member, bad_address, addresses_tests, addresses_refusal, addresses_of, count, ring_of as ring_in, read_ring}
use Rattle.codec.proofs.Laws.Bits.{bits_below}
use Rattle.codec.proofs.Laws.Order.{Apart, NoneHolds, none_holds}
use Rattle.codec.proofs.Laws.Ring.{read_zero, read_good, head_passed, refused_late, length_addresses, members_filled}
use Rattle.driver_calls.specs.Calls.{ring_of}
use Rattle.wire_theorems.specs.Wire.{GoodAddresses}

-- ---- of 48 bits

snoc_below : (k : ℕ) → 0 < k → (xs : List ℕ) (y : ℕ) → ((p : ℕ) → get_or xs p 0 < k) → y < k → (p : ℕ) → get_or (xs ++ y ∷ []) p 0 < k
snoc_below k h [] y b c zero = c
snoc_below k h [] y b c (suc p) = h
snoc_below k h (x ∷ xs) y b c zero = b 0
snoc_below k h (x ∷ xs) y b c (suc p) = snoc_below k h xs y (λ q. b (suc q)) c p

addresses_wide : (file : List ℕ) (n p : ℕ) → get_or (addresses_of file n) p 0 < 2 ^ 48
unfolding addresses_of
addresses_wide file zero p = omega arith
addresses_wide file (suc n) p = snoc_below (2 ^ 48) (omega arith) (addresses_of file n) _ (addresses_wide file n) (bits_below file _ 48) p

-- ---- what the tests of the addresses say of each

tests_apart : (earlier more : List ℕ) → Apart 0 (addresses_tests earlier more)
tests_apart earlier [] = tt
tests_apart earlier (a ∷ more) = ((λ z. omega arith), ((λ z. omega arith), tests_apart (earlier ++ (a ∷ [])) more))

-- it is not bad, and none before it is the same
each_passed : (earlier more : List ℕ) → NoneHolds (addresses_tests earlier more) → (p : ℕ) → p < length more
    → (bad_address (get_or more p 0) ≡ false) × (is_member (earlier ++ take p more) (get_or more p 0) ≡ false)
each_passed earlier [] t p h = absurd (omega arith)
each_passed earlier (a ∷ more) t zero h = (t.0, ap (λ (l : List ℕ). is_member l a) (append-nil earlier) ∙ t.1.0)
each_passed earlier (a ∷ more) t (suc p) h =
    let r = each_passed (earlier ++ (a ∷ [])) more t.1.1 p (omega arith) in
    (r.0, ap (λ (l : List ℕ). is_member l (get_or more p 0)) (sym (append_assoc earlier (a ∷ []) (take p more))) ∙ r.1)

-- so it is found at its own position
position_at : (ms : List ℕ) (p : ℕ) → p < length ms → is_member (take p ms) (get_or ms p 0) ≡ false → position ms (get_or ms p 0) ≡ p
unfolding position
position_at [] p h e = absurd (omega arith)
position_at (m ∷ ms) zero h e = simp (eq-eqb m m refl)
position_at (m ∷ ms) (suc p) h e = go (eqb m (get_or ms p 0)) e (position_at ms p (omega arith))
  where
    go : (b : Bool) → ltb (cond b 0 (suc (position (take p ms) (get_or ms p 0)))) (suc (length (take p ms))) ≡ false
        → (is_member (take p ms) (get_or ms p 0) ≡ false → position ms (get_or ms p 0) ≡ p) → cond b 0 (suc (position ms (get_or ms p 0))) ≡ suc p
    go true t rest = let f : suc (length (take p ms)) ≤ 0 = ltb-false _ _ t in absurd (omega arith)
    go false t rest =
        let f : suc (length (take p ms)) ≤ suc (position (take p ms) (get_or ms p 0)) = ltb-false _ _ t in
        ap suc (rest (le-ltb (position (take p ms) (get_or ms p 0)) (length (take p ms)) (omega arith)))

not_zero : (a : ℕ) → bad_address a ≡ false → a ≡ 0 → ⊥
unfolding bad_address
not_zero a e z = go (eqb a 0) (eq-eqb a 0 z) e
  where
    go : (b : Bool) → b ≡ true → (b || eqb (a / 2 ^ 40 % 2) 1) ≡ false → ⊥
    go true h t = false≢true (sym t)
    go false h t = false≢true h

-- ---- a ring file that reads

pub good_addresses : (file : List ℕ) → (read_ring file).number ≡ 0 → GoodAddresses (ring_of file)
unfolding addresses_refusal ring_in
good_addresses file e =
    let z = read_zero file e in
    let ms : List ℕ = addresses_of file (count file) in
    let is : ring_of file ≡ ms =
    ap (λ (r : RingRead). take r.ring.n r.ring.addresses) (read_good file z) ∙ members_filled ms (count file) (length_addresses file (count file)) in
    let none : NoneHolds (addresses_tests [] ms) = none_holds 0 (addresses_tests [] ms) (tests_apart [] ms) (sym (refused_late file (head_passed file z)) ∙ z) in
    let g : GoodAddresses ms =
    record {
      wide = λ p h. addresses_wide file (count file) p;
      some = λ p h. not_zero _ (each_passed [] ms none p h).0;
      own = λ p h. position_at ms p h (each_passed [] ms none p h).1;
    } in
    rw is g
