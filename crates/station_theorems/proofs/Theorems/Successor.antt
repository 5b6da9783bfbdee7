-- "The successor of a station is the next live one in ring order, cyclically". Assumes nothing.
use mathlib.Core.Path.{◌≡◌, refl, sym, ap, subst, ◌∙◌}
use mathlib.Core.Bool.{Bool, true, false}
use Prim.Native.Nat.{ℕ, zero, suc, ◌+◌, ◌-◌, ◌%◌, ◌<◌, ◌≤◌}
use native.Mathlib.Nat.{mod-lt, mod-eq_of_lt, mod_self, mod-add-mod, mod-eq-sub-mod, add-mod_right, add-zero}
use native.Mathlib.Omega.{arith}
use lib.Dec.{ltb, eqb}
use borrow.Author.Tests.{ltb-true, ltb-false, eqb-true, eqb-false}
use Rattle.parts.specs.declared.live.Live.{Live}
use Rattle.parts.specs.Live.{live_at, after, seek, successor}
use Rattle.parts.proofs.Laws.Live.{after_inside, after_last, seek_none, seek_here, seek_further}
use Rattle.station_theorems.specs.Successor.{onward, Successor}

-- ---- steps on the ring

after_mod : (n p : ℕ) → p < n → after n p ≡ (p + 1) % n
after_mod n p h = go (ltb (p + 1) n) refl
  where
    go : (b : Bool) → ltb (p + 1) n ≡ b → after n p ≡ (p + 1) % n
    go true e =
        let i : p + 1 < n = ltb-true (p + 1) n e in
        after_inside n p i ∙ sym (mod-eq_of_lt i)
    go false e =
        let i : n ≤ p + 1 = ltb-false (p + 1) n e in
        let same : p + 1 ≡ n = omega arith in
        after_last n p i ∙ sym (ap (λ (k : ℕ). k % n) same ∙ mod_self n)

module _ (n own : ℕ) (inside : own < n) where
  onward_below : (k : ℕ) → onward n own k < n
  onward_below k = mod-lt (own + k) (omega arith)

  onward_none : onward n own 0 ≡ own
  onward_none = ap (λ (k : ℕ). k % n) (add-zero own) ∙ mod-eq_of_lt inside

  onward_more : (k : ℕ) → after n (onward n own k) ≡ onward n own (suc k)
  onward_more k =
      let shift : own + k + 1 ≡ own + suc k = omega arith in
      after_mod n (onward n own k) (onward_below k) ∙ mod-add-mod (own + k) n 1 ∙ ap (λ (m : ℕ). m % n) shift

  -- a step that is not all round leads elsewhere
  onward_another : (k : ℕ) → 0 < k → k < n → onward n own k ≡ own → ⊥
  onward_another k low high same = go (ltb (own + k) n) refl
    where
      go : (b : Bool) → ltb (own + k) n ≡ b → ⊥
      go true e = omega (arith, mod-eq_of_lt (ltb-true (own + k) n e), same)
      go false e =
          let i : n ≤ own + k = ltb-false (own + k) n e in
          let r : (own + k) % n ≡ own + k - n = mod-eq-sub-mod i ∙ mod-eq_of_lt (omega arith) in
          omega arith

  -- each other member is reached
  reach : (p : ℕ) → p < n → (p ≡ own → ⊥) → (k : ℕ) × (0 < k) × (k < n) × (onward n own k ≡ p)
  reach p h other = go (ltb own p) refl
    where
      go : (b : Bool) → ltb own p ≡ b → (k : ℕ) × (0 < k) × (k < n) × (onward n own k ≡ p)
      go true e =
          let i : own < p = ltb-true own p e in
          let to : own + (p - own) ≡ p = omega arith in
          (p - own, omega arith, omega arith, ap (λ (m : ℕ). m % n) to ∙ mod-eq_of_lt h)
      go false e =
          let i : p ≤ own = ltb-false own p e in
          let to : own + (p + n - own) ≡ p + n = omega arith in
          (p + n - own, omega arith, omega arith, ap (λ (m : ℕ). m % n) to ∙ add-mod_right p n ∙ mod-eq_of_lt h)

  module _ (l : Live) where
    -- the search of k more positions after j of them, where nobody of those is live
    search_on : (k j : ℕ) → j + suc k ≡ n → ((i : ℕ) → 0 < i → i ≤ j → live_at l (onward n own i) ≡ false)
        → Successor l n own (seek l n own k (onward n own j))
    search_on zero j e passed =
        rw (seek_none l n own (onward n own j))
        (record {
          next = λ ne. absurd (ne refl);
          no_other = λ s p h other.
              let r = reach p h other in
              subst (λ (q : ℕ). live_at l q ≡ false) r.3 (passed r.0 r.1 (omega arith));
        })
    search_on (suc k) j e passed = go (live_at l (onward n own (suc j))) refl (search_on k (suc j) (omega arith))
      where
        here : after n (onward n own j) ≡ onward n own (suc j)
        here = onward_more j

        go : (b : Bool) → live_at l (onward n own (suc j)) ≡ b
            → (((i : ℕ) → 0 < i → i ≤ suc j → live_at l (onward n own i) ≡ false) → Successor l n own (seek l n own k (onward n own (suc j))))
            → Successor l n own (seek l n own (suc k) (onward n own j))
        go true d rest =
            rw (seek_here l n own k (onward n own j) (ap (live_at l) here ∙ d), here)
            (record {
              next = λ ne.
                  record {
                    member = onward_below (suc j);
                    another = ne;
                    live = d;
                    steps = suc j;
                    reached = refl;
                    once_round = omega arith;
                    nobody_between = λ i low high. passed i low (omega arith);
                  };
              no_other = λ s. absurd (onward_another (suc j) (omega arith) (omega arith) s);
            })
        go false d rest =
            rw (seek_further l n own k (onward n own j) (ap (live_at l) here ∙ d), here)
            (rest (λ i low high. last i low high (eqb i (suc j)) refl))
          where
            last : (i : ℕ) → 0 < i → i ≤ suc j → (b : Bool) → eqb i (suc j) ≡ b → live_at l (onward n own i) ≡ false
            last i low high true q = ap (λ (m : ℕ). live_at l (onward n own m)) (eqb-true i (suc j) q) ∙ d
            last i low high false q = let ne : i ≡ suc j → ⊥ = eqb-false i (suc j) q in passed i low (omega arith)

    pub successor_is : Successor l n own (successor l n own)
    unfolding successor
    successor_is =
        subst (λ (p : ℕ). Successor l n own (seek l n own (n - 1) p)) onward_none
        (search_on (n - 1) 0 (omega arith) (λ i low high. absurd (omega arith)))
