-- Things of one width, side by side: what is written of them reads as them, and the other way round. Assumes nothing.
use mathlib.Core.Path.{◌≡◌, refl, sym, ap, ◌∙◌}
use mathlib.Core.List.{List, [], ◌∷◌, ◌++◌, append_assoc, append-nil}
use Prim.Native.Nat.{ℕ, zero, suc, ◌+◌, ◌*◌, ◌<◌, ◌≤◌}
use native.Mathlib.Nat.{le_of_lt, zero-mul, suc-mul, add-zero, add_assoc}
use native.Mathlib.Omega.{arith}
use lib.ListN.{length, take, drop, get_or}
use lib.Seq.{take-suc, take_all, split_at, length-take-le}
use Rattle.records.specs.Tables.{tab, joined}
use Rattle.records.proofs.Laws.Tables.{length_joined}
use Rattle.record_theorems.proofs.Laws.Goes.{Goes, goes_join, goes_first, goes_second}

module _ {A : Type 0} (f : A → List ℕ) where
  pub joined_append : (xs ys : List A) → joined f (xs ++ ys) ≡ joined f xs ++ joined f ys
  unfolding joined
  joined_append [] ys = refl
  joined_append (x ∷ xs) ys = ap (λ (l : List ℕ). f x ++ l) (joined_append xs ys) ∙ sym (append_assoc (f x) (joined f xs) (joined f ys))

  pub joined_cons : (x : A) (xs : List A) → joined f (x ∷ xs) ≡ f x ++ joined f xs
  unfolding joined
  joined_cons x xs = refl

  joined_one : (x : A) → joined f (x ∷ []) ≡ f x
  unfolding joined
  joined_one x = append-nil (f x)

  joined_tab : (g : ℕ → A) (n : ℕ) → joined f (tab g (suc n)) ≡ joined f (tab g n) ++ f (g n)
  unfolding tab
  joined_tab g n = joined_append (tab g n) (g n ∷ []) ∙ ap (λ (l : List ℕ). joined f (tab g n) ++ l) (joined_one (g n))

  no_tab : (g : ℕ → A) → joined f (tab g 0) ≡ []
  unfolding tab joined
  no_tab g = refl

  -- what reads is written
  pub row_written : (s : List ℕ) (k at : ℕ) (g : ℕ → A) (n : ℕ) → ((i : ℕ) → i < n → Goes s (at + i * k) (f (g i)) (at + suc i * k))
      → Goes s at (joined f (tab g n)) (at + n * k)
  row_written s k at g zero p = rw (no_tab g, zero-mul k, add-zero at)
  row_written s k at g (suc n) p =
      rw (joined_tab g n)
      (goes_join s (joined f (tab g n)) (f (g n)) at (at + n * k) (at + suc n * k)
      (row_written s k at g n (λ i h. p i (omega arith)))
      (p n (omega arith)))

  module _ (s : List ℕ) (k : ℕ) (wide : (a : A) → length (f a) ≡ k) (xs : List A) (d : A) (at next : ℕ) (p : Goes s at (joined f xs) next) where
    -- one of those that are written
    pub row_item : (i : ℕ) → i < length xs → Goes s (at + i * k) (f (get_or xs i d)) (at + suc i * k)
    row_item i h =
        let x : A = get_or xs i d in
        let e : joined f xs ≡ joined f (take i xs) ++ (f x ++ joined f (drop (suc i) xs)) =
        ap (joined f) (split_at xs i d h) ∙ joined_append (take i xs) (x ∷ drop (suc i) xs) ∙ ap (λ (l : List ℕ). joined f (take i xs) ++ l) (joined_cons x (drop (suc i) xs)) in
        let long : at + length (joined f (take i xs)) ≡ at + i * k =
        ap (λ (n : ℕ). at + n) (length_joined f k wide (take i xs) ∙ ap (λ (n : ℕ). n * k) (length-take-le i xs (le_of_lt h))) in
        let q : Goes s (at + i * k) (f x ++ joined f (drop (suc i) xs)) next =
        goes_second s (joined f (take i xs)) (f x ++ joined f (drop (suc i) xs)) at (at + i * k) next long (p ∙ ap (λ (l : List ℕ). l ++ drop next s) e) in
        let end : at + i * k + length (f x) ≡ at + suc i * k =
        ap (λ (n : ℕ). at + i * k + n) (wide x) ∙ add_assoc at (i * k) k ∙ ap (λ (n : ℕ). at + n) (sym (suc-mul i k)) in
        goes_first s (f x) (joined f (drop (suc i) xs)) (at + i * k) (at + suc i * k) next end q

-- a table is a list where it is at each index
tab_take : {A : Type 0} (g : ℕ → A) (xs : List A) (d : A) → ((i : ℕ) → i < length xs → g i ≡ get_or xs i d) → (n : ℕ) → n ≤ length xs → tab g n ≡ take n xs
unfolding tab
tab_take g xs d p zero h = refl
tab_take {A} g xs d p (suc n) h =
    rw (take-suc xs n d h, tab_take g xs d p n (le_of_lt h), p n h)

pub tab_is : {A : Type 0} (g : ℕ → A) (xs : List A) (d : A) (n : ℕ) → length xs ≡ n → ((i : ℕ) → i < n → g i ≡ get_or xs i d) → tab g n ≡ xs
tab_is g xs d n e p =
    tab_take g xs d (λ i h. p i (omega arith)) n (omega arith) ∙ take_all n xs (omega arith)
