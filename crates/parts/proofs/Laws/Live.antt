-- Laws of the live set and of the successor. Assumes nothing.
use Rattle.std.proofs.Common.{◌≡◌, ℕ, suc, ◌+◌, ◌-◌, ◌<◌, ◌≤◌, Bool, true, false, ltb, List, ◌++◌, set, replicate, sym, refl, ap, ◌∙◌, arith, ltb-false, ltb-true, le-ltb, lt-ltb}
use lib.ListN.{length-replicate, replicate-append-replicate}
use lib.Seq.{set_at, append_snoc}
use Rattle.parts.specs.declared.live.Live.{Live}
use Rattle.parts.specs.Live.{live_at, after, seek, seats, full}
use Rattle.parts.proofs.Laws.Choose.{pick_true, pick_false}

-- ---- the position after

pub after_inside : (n p : ℕ) → p + 1 < n → after n p ≡ p + 1
unfolding after
after_inside n p h = pick_true (p + 1) 0 (lt-ltb (p + 1) n h)

pub after_last : (n p : ℕ) → n ≤ p + 1 → after n p ≡ 0
unfolding after
after_last n p h = pick_false (p + 1) 0 (le-ltb (p + 1) n h)

-- ---- one step of the search

module _ (l : Live) (n self : ℕ) where
  pub seek_none : (p : ℕ) → seek l n self 0 p ≡ self
  unfolding seek
  seek_none p = refl

  pub seek_here : (k p : ℕ) → live_at l (after n p) ≡ true → seek l n self (suc k) p ≡ after n p
  unfolding seek
  seek_here k p h = pick_true (after n p) (seek l n self k (after n p)) h

  pub seek_further : (k p : ℕ) → live_at l (after n p) ≡ false → seek l n self (suc k) p ≡ seek l n self k (after n p)
  unfolding seek
  seek_further k p h = pick_false (after n p) (seek l n self k (after n p)) h

  -- the same as a loop has it, where k of n - 1 positions are passed
  module _ (k p r : ℕ) (more : k < n) (e : r ≡ after n p) where
    one_left : n - k ≡ suc (n - (k + 1))
    one_left = omega arith

    pub turn_found : live_at l r ≡ true → seek l n self (n - k) p ≡ r
    turn_found h = ap (λ (m : ℕ). seek l n self m p) one_left ∙ seek_here (n - (k + 1)) p (ap (live_at l) (sym e) ∙ h) ∙ sym e

    pub turn_further : live_at l r ≡ false → seek l n self (n - k) p ≡ seek l n self (n - (k + 1)) r
    turn_further h =
        ap (λ (m : ℕ). seek l n self m p) one_left
        ∙ seek_further (n - (k + 1)) p (ap (live_at l) (sym e) ∙ h)
        ∙ ap (seek l n self (n - (k + 1))) (sym e)

-- ---- all members

-- the first p of n are set
pub filled_more : (n p : ℕ) → p < n → set (replicate p true ++ replicate (n - p) false) p true ≡ replicate (p + 1) true ++ replicate (n - (p + 1)) false
filled_more n p h =
    let one : n - p ≡ suc (n - (p + 1)) = omega arith in
    let rest : List Bool = replicate (n - (p + 1)) false in
    ap (λ (m : ℕ). set (replicate p true ++ replicate m false) p true) one
    ∙ set_at (replicate p true) false rest true p (length-replicate p true)
    ∙ sym (append_snoc (replicate p true) true rest)
    ∙ ap (λ (xs : List Bool). xs ++ rest) (replicate-append-replicate p 1 true)

pub seats_inside : (n : ℕ) → n < 64 → seats n ≡ n
seats_inside n h = pick_true n 64 (lt-ltb n 64 h)

pub seats_all : (n : ℕ) → 64 ≤ n → seats n ≡ 64
seats_all n h = pick_false n 64 (le-ltb n 64 h)

pub seats_most : (n : ℕ) → seats n ≤ 64
seats_most n = go (ltb n 64) refl
  where
    go : (b : Bool) → ltb n 64 ≡ b → seats n ≤ 64
    go true e = omega (arith, ltb-true n 64 e, seats_inside n (ltb-true n 64 e))
    go false e = omega (arith, seats_all n (ltb-false n 64 e))

-- the set that the first m of 64 are in
pub filled : (l : Live) (n m p : ℕ) → m ≡ seats n → p ≤ m → m ≤ p → l.on ≡ replicate p true ++ replicate (64 - p) false → l ≡ full n
unfolding full
filled l n m p e low high f =
    let same : p ≡ seats n = omega arith in
    let g : l.on ≡ replicate (seats n) true ++ replicate (64 - seats n) false =
    f ∙ ap (λ (k : ℕ). replicate k true ++ replicate (64 - k) false) same in
    ap (λ (xs : List Bool). let r : Live = record { on = xs } in r) g
