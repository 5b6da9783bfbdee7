-- Laws of places on the ring: the next place, and how far a place stands after the master's. Assumes nothing.
use mathlib.Core.Path.{◌≡◌, refl, ◌∙◌}
use mathlib.Core.Bool.{Bool, true, false}
use mathlib.Core.Logic.{◌⊎◌, inl, inr}
use Prim.Native.Nat.{ℕ, ◌+◌, ◌-◌, ◌%◌, ◌<◌, ◌≤◌}
use native.Mathlib.Nat.{mod-lt, mod-eq_of_lt, mod-eq-sub-mod}
use native.Mathlib.Omega.{arith}
use lib.Dec.{ltb, leb}
use borrow.Author.Tests.{ltb-true, ltb-false, leb-true, leb-false}
use Rattle.parts.specs.Live.{after}
use Rattle.parts.proofs.Laws.Live.{after_inside, after_last}
use Rattle.bench_theorems.specs.Quiet.{offset}

-- ---- the next place

-- one more, or 0 behind the last
pub record Inside (n p q : ℕ) : Type 0 where
  pub one_more : q ≡ p + 1
  pub below : q < n

pub record Around (n p q : ℕ) : Type 0 where
  pub last : p + 1 ≡ n
  pub none : q ≡ 0

pub after_is : (n p : ℕ) → p < n → Inside n p (after n p) ⊎ Around n p (after n p)
after_is n p h = go (ltb (p + 1) n) refl
  where
    go : (b : Bool) → ltb (p + 1) n ≡ b → Inside n p (after n p) ⊎ Around n p (after n p)
    go true e =
        let i : p + 1 < n = ltb-true (p + 1) n e in
        let q : after n p ≡ p + 1 = after_inside n p i in
        inl (record { one_more = q; below = omega arith })
    go false e =
        let i : n ≤ p + 1 = ltb-false (p + 1) n e in
        inr (record { last = omega arith; none = after_last n p i })

pub after_member : (n p : ℕ) → p < n → after n p < n
after_member n p h = go (after_is n p h)
  where
    go : Inside n p (after n p) ⊎ Around n p (after n p) → after n p < n
    go (inl i) = i.below
    go (inr i) = omega arith

pub after_another : (n p : ℕ) → 2 ≤ n → p < n → after n p ≡ p → ⊥
after_another n p two h e = go (after_is n p h)
  where
    go : Inside n p (after n p) ⊎ Around n p (after n p) → ⊥
    go (inl i) = omega arith
    go (inr i) = omega arith

-- ---- the distance from the master

module _ (n m : ℕ) (master : m < n) where
  pub offset_below : (p : ℕ) → offset n m p < n
  unfolding offset
  offset_below p = mod-lt (p + n - m) (omega arith)

  -- behind the master's place, or before it and once around
  pub offset_is : (p : ℕ) → p < n → (offset n m p + m ≡ p) ⊎ (offset n m p + m ≡ p + n)
  unfolding offset
  offset_is p h = go (leb m p) refl
    where
      go : (b : Bool) → leb m p ≡ b → ((p + n - m) % n + m ≡ p) ⊎ ((p + n - m) % n + m ≡ p + n)
      go true e =
          let i : m ≤ p = leb-true m p e in
          let r : (p + n - m) % n ≡ p + n - m - n = mod-eq-sub-mod (omega arith) ∙ mod-eq_of_lt (omega arith) in
          inl (omega arith)
      go false e =
          let i : p < m = leb-false m p e in
          let r : (p + n - m) % n ≡ p + n - m = mod-eq_of_lt (omega arith) in
          inr (omega arith)

  pub offset_own : offset n m m ≡ 0
  offset_own = go (offset_is m master) (offset_below m)
    where
      go : (offset n m m + m ≡ m) ⊎ (offset n m m + m ≡ m + n) → offset n m m < n → offset n m m ≡ 0
      go (inl e) h = omega arith
      go (inr e) h = absurd (omega arith)

  -- a token at the next place has asked one more
  pub offset_more : (p : ℕ) → p < n → (after n p ≡ m → ⊥) → offset n m (after n p) ≡ offset n m p + 1
  offset_more p h o = go (after_is n p h) (offset_is p h) (offset_is (after n p) (after_member n p h)) (offset_below p) (offset_below (after n p))
    where
      go : Inside n p (after n p) ⊎ Around n p (after n p) → (offset n m p + m ≡ p) ⊎ (offset n m p + m ≡ p + n)
          → (offset n m (after n p) + m ≡ after n p) ⊎ (offset n m (after n p) + m ≡ after n p + n)
          → offset n m p < n → offset n m (after n p) < n → offset n m (after n p) ≡ offset n m p + 1
      go (inl i) (inl a) (inl b) x y = omega arith
      go (inl i) (inl a) (inr b) x y = omega arith
      go (inl i) (inr a) (inl b) x y = omega arith
      go (inl i) (inr a) (inr b) x y = omega arith
      go (inr i) (inl a) (inl b) x y = omega arith
      go (inr i) (inl a) (inr b) x y = omega arith
      go (inr i) (inr a) (inl b) x y = omega arith
      go (inr i) (inr a) (inr b) x y = omega arith

  -- and is back at the master once all have been asked
  pub offset_last : (p : ℕ) → p < n → after n p ≡ m → offset n m p + 1 ≡ n
  offset_last p h o = go (after_is n p h) (offset_is p h) (offset_below p)
    where
      go : Inside n p (after n p) ⊎ Around n p (after n p) → (offset n m p + m ≡ p) ⊎ (offset n m p + m ≡ p + n) → offset n m p < n → offset n m p + 1 ≡ n
      go (inl i) (inl a) x = omega arith
      go (inl i) (inr a) x = omega arith
      go (inr i) (inl a) x = omega arith
      go (inr i) (inr a) x = omega arith

  -- two places as far from the master are one
  pub offset_same : (p q : ℕ) → p < n → q < n → offset n m p ≡ offset n m q → p ≡ q
  offset_same p q h i e = go (offset_is p h) (offset_is q i)
    where
      go : (offset n m p + m ≡ p) ⊎ (offset n m p + m ≡ p + n) → (offset n m q + m ≡ q) ⊎ (offset n m q + m ≡ q + n) → p ≡ q
      go (inl a) (inl b) = omega arith
      go (inl a) (inr b) = absurd (omega arith)
      go (inr a) (inl b) = absurd (omega arith)
      go (inr a) (inr b) = omega arith
