-- Laws of things of one width, side by side. Assumes nothing.
use mathlib.Core.Path.{◌≡◌, refl, sym, ap, ◌∙◌}
use mathlib.Core.Bool.{Bool, true, false}
use mathlib.Core.List.{List, [], ◌∷◌, ◌++◌, append_assoc, append-nil}
use Prim.Native.Nat.{ℕ, zero, suc, ◌+◌, ◌*◌, ◌<◌, ◌≤◌}
use native.Mathlib.Nat.{le_of_lt, zero-mul, suc-mul, add_comm, add-zero}
use native.Mathlib.Numerals.{add-one}
use native.Mathlib.Omega.{arith}
use borrow.Author.Tests.{ltb-true, ltb-false}
use lib.Dec.{ltb}
use lib.ListN.{length, take, drop, get_or, set, length-append, get_or-append}
use lib.Seq.{drop-cons, drop-length, set_at, take-suc, length-take-le, get_or-append_seam}
use Rattle.codec.specs.Octets.{laid}
use Rattle.codec.proofs.Laws.Octets.{then_laid}
use Rattle.records.specs.Tables.{tab, joined}

module _ {A : Type 0} (f : ℕ → A) where
  pub tab_none : (l : List A) → l ≡ tab f 0 ++ l
  unfolding tab
  tab_none l = refl

  pub length_tab : (n : ℕ) → length (tab f n) ≡ n
  unfolding tab
  length_tab zero = refl
  length_tab (suc n) = length-append (tab f n) (f n ∷ []) ∙ ap (λ (k : ℕ). k + 1) (length_tab n) ∙ add-one n

  tab_suc : (n : ℕ) → tab f (suc n) ≡ tab f n ++ (f n ∷ [])
  unfolding tab
  tab_suc n = refl

  -- one element more of a table, stored over what was there
  pub tab_stored : (l : List A) (i : ℕ) (d : A) → i < length l → set (tab f i ++ drop i l) i (f i) ≡ tab f (i + 1) ++ drop (i + 1) l
  tab_stored l i d h =
      rw (add-one i, tab_suc i, drop-cons l i d h, set_at (tab f i) (get_or l i d) (drop (suc i) l) (f i) i (length_tab i))
      (sym (append_assoc (tab f i) (f i ∷ []) (drop (suc i) l)))

  -- the same as a loop has it
  pub tab_more : (l l₁ : List A) (x : A) (i : ℕ) (d : A) → i < length l → l₁ ≡ tab f i ++ drop i l → x ≡ f i → set l₁ i x ≡ tab f (i + 1) ++ drop (i + 1) l
  tab_more l l₁ x i d h e ex = rw (e, ex) (tab_stored l i d h)

  -- and at its end
  pub tab_all : (l l₁ : List A) (i n : ℕ) → i ≡ n → length l ≡ n → l₁ ≡ tab f i ++ drop i l → l₁ ≡ tab f n
  tab_all l l₁ i n e h p = p ∙ ap (λ (k : ℕ). tab f k ++ drop k l) (e ∙ sym h) ∙ rw (lib.Seq.drop-length l, mathlib.Core.List.append-nil (tab f (length l)), h)

  -- an element of a table
  pub tab_get : (n i : ℕ) (d : A) → i < n → get_or (tab f n) i d ≡ f i
  tab_get zero i d h = absurd (omega arith)
  tab_get (suc n) i d h = ap (λ (l : List A). get_or l i d) (tab_suc n) ∙ go (ltb i n) refl (λ less. tab_get n i d less)
    where
      go : (t : Bool) → ltb i n ≡ t → (i < n → get_or (tab f n) i d ≡ f i) → get_or (tab f n ++ (f n ∷ [])) i d ≡ f i
      go true e earlier =
          let less : i < n = ltb-true i n e in
          get_or-append (tab f n) (f n ∷ []) d i (rw (length_tab n) less) ∙ earlier less
      go false e earlier =
          let more : n ≤ i = ltb-false i n e in
          let same : i ≡ n = omega arith in
          ap (λ (k : ℕ). get_or (tab f n ++ (f n ∷ [])) k d) (same ∙ sym (length_tab n)) ∙ get_or-append_seam (tab f n) (f n) [] d ∙ ap f (sym same)

  tab_next : (l : List A) (i : ℕ) (d : A) → i < length l → f i ≡ get_or l i d → tab f i ++ drop i l ≡ tab f (suc i) ++ drop (suc i) l
  tab_next l i d h e =
      ap (λ (r : List A). tab f i ++ r) (drop-cons l i d h)
      ∙ ap (λ (x : A). tab f i ++ (x ∷ drop (suc i) l)) (sym e)
      ∙ sym (append_assoc (tab f i) (f i ∷ []) (drop (suc i) l))
      ∙ ap (λ (r : List A). r ++ drop (suc i) l) (sym (tab_suc i))

  -- a list that is the table from an index on
  pub tab_rest : (l : List A) (d : A) (j i : ℕ) → i + j ≡ length l → ((n : ℕ) → i ≤ n → n < length l → f n ≡ get_or l n d) → tab f i ++ drop i l ≡ tab f (length l)
  tab_rest l d zero i e p =
      ap (λ (k : ℕ). tab f k ++ drop k l) (sym (add-zero i) ∙ e) ∙ ap (λ (r : List A). tab f (length l) ++ r) (drop-length l) ∙ append-nil (tab f (length l))
  tab_rest l d (suc j) i e p =
      tab_next l i d (omega arith) (p i (omega arith) (omega arith)) ∙ tab_rest l d j (suc i) (omega arith) (λ n lo hi. p n (omega arith) hi)

module _ {A : Type 0} (f : A → List ℕ) (k : ℕ) (wide : (a : A) → length (f a) ≡ k) where
  pub joined_none : (xs : List A) → joined f (take 0 xs) ≡ []
  unfolding joined
  joined_none xs = refl

  pub length_joined : (xs : List A) → length (joined f xs) ≡ length xs * k
  unfolding joined
  length_joined [] = sym (zero-mul k)
  length_joined (a ∷ xs) = length-append (f a) (joined f xs) ∙ rw (wide a, length_joined xs) (add_comm k (length xs * k) ∙ sym (suc-mul (length xs) k))

  joined_snoc : (xs : List A) (a : A) → joined f (xs ++ (a ∷ [])) ≡ joined f xs ++ f a
  unfolding joined
  joined_snoc [] a = mathlib.Core.List.append-nil (f a)
  joined_snoc (x ∷ xs) a = ap (λ (l : List ℕ). f x ++ l) (joined_snoc xs a) ∙ sym (append_assoc (f x) (joined f xs) (f a))

  -- one thing more, written behind the others
  pub joined_more : (l out out' : List ℕ) (xs : List A) (at next i : ℕ) (d : A) → at + i * k ≡ next → i < length xs → next ≤ length l
      → out ≡ laid l at (joined f (take i xs)) → out' ≡ laid out next (f (get_or xs i d)) → out' ≡ laid l at (joined f (take (i + 1) xs))
  joined_more l out out' xs at next i d e h room p q =
      let long : at + length (joined f (take i xs)) ≡ next =
      ap (λ (n : ℕ). at + n) (length_joined (take i xs) ∙ ap (λ (n : ℕ). n * k) (length-take-le i xs (le_of_lt h))) ∙ e in
      rw (add-one i, take-suc xs i d h, joined_snoc (take i xs) (get_or xs i d))
      (then_laid l out out' (joined f (take i xs)) (f (get_or xs i d)) at next long room p q)
