-- Laws of a line's shape: what its word and the numbers behind it say. Assumes nothing.
use Rattle.std.proofs.Common.{◌≡◌, ℕ, suc, ◌+◌, ◌<◌, Bool, true, false, cond, List, [], ◌∷◌, ◌++◌, ◌&&◌, map, length, get_or, Some, None, refl, sym, ap, ◌∙◌, arith}
use Rattle.std.specs.List.{list_all}
use Rattle.std.specs.Str.{bytes_eq}
use Rattle.std.proofs.lemmas.Bool.{false≢true, eq-eqb, eqb-true}
use Rattle.std.proofs.Math.Bool.{and-false}
use Rattle.std.proofs.lemmas.Option.{none-some, same_Some}
use Rattle.std.proofs.lemmas.List.{get_or-map, length-map, length-append, map-append}
use Rattle.std.proofs.lemmas.List.Folds.{list_all-append}
use Rattle.parts.specs.Choose.{pick}
use Rattle.parts.proofs.Laws.Tests.{held, hold}
use Rattle.script.specs.Lines.{is_number, value, number_in, shaped, ring_word, queue_word, step_word, line_of_words}
use Rattle.script.specs.declared.lines.Line.TheVariants.{Ring, Queue, Step}

-- ---- a test in a row of answers

module _ {A : Type 0} {b : Bool} (x y : A) where
  yes : b ≡ true → cond b x y ≡ x
  yes e = rw e

  no : b ≡ false → cond b x y ≡ y
  no e = rw e

never : (b : Bool) → (b ≡ true → ⊥) → b ≡ false
never true n = absurd (n refl)
never false n = refl

-- ---- the shapes

module _ (w : List ℕ) (k : ℕ) (v : List ℕ) (ws : List (List ℕ)) where
  shaped_is : bytes_eq v w ≡ true → length ws ≡ k → list_all is_number ws ≡ true → shaped w k (v ∷ ws) ≡ true
  unfolding shaped
  shaped_is s l e = hold _ (s, (eq-eqb (suc (length ws)) (k + 1) (omega arith), (e, tt)))

  -- a good shape, taken apart
  pub shaped_parts : shaped w k (v ∷ ws) ≡ true → (bytes_eq v w ≡ true) × (length ws ≡ k) × (list_all is_number ws ≡ true)
  unfolding shaped
  shaped_parts e =
      let h = held _ e in
      (h.0, omega (arith, eqb-true (suc (length ws)) (k + 1) h.1.0), h.1.1.0)

  other_word : bytes_eq v w ≡ false → shaped w k (v ∷ ws) ≡ false
  other_word n = never _ (λ e. false≢true (sym n ∙ (shaped_parts e).0))

  other_count : (length ws ≡ k → ⊥) → shaped w k (v ∷ ws) ≡ false
  other_count n = never _ (λ e. n (shaped_parts e).1)

  not_numbers : list_all is_number ws ≡ false → shaped w k (v ∷ ws) ≡ false
  not_numbers n = never _ (λ e. false≢true (sym n ∙ (shaped_parts e).2))

pub no_shape : (ws : List (List ℕ)) → shaped ring_word 1 ws ≡ false → shaped queue_word 5 ws ≡ false → shaped step_word 1 ws ≡ false → None ≡ line_of_words ws
unfolding line_of_words
no_shape ws r q s = sym (no _ _ r ∙ no _ _ q ∙ no _ _ s)

module _ (v : List ℕ) (ws : List (List ℕ)) where
  pub bad_numbers : list_all is_number ws ≡ false → None ≡ line_of_words (v ∷ ws)
  bad_numbers n = no_shape (v ∷ ws) (not_numbers ring_word 1 v ws n) (not_numbers queue_word 5 v ws n) (not_numbers step_word 1 v ws n)

  pub bad_count : (length ws ≡ 1 → ⊥) → (length ws ≡ 5 → ⊥) → None ≡ line_of_words (v ∷ ws)
  bad_count a b = no_shape (v ∷ ws) (other_count ring_word 1 v ws a) (other_count queue_word 5 v ws b) (other_count step_word 1 v ws a)

  -- the numbers behind the word
  module _ (ns : List ℕ) (each : list_all is_number ws ≡ true) (are : ns ≡ map value ws) where
    many : length ns ≡ length ws
    many = ap length are ∙ length-map ws value

    at : (i : ℕ) → i < length ns → get_or ns i 0 ≡ value (get_or ws i [])
    at i h = ap (λ l. get_or l i 0) are ∙ get_or-map value ws i [] 0 (omega (arith, many))

    pub says_ring : length ns ≡ 1 → bytes_eq v ring_word ≡ true → Some (Ring (get_or ns 0 0)) ≡ line_of_words (v ∷ ws)
    unfolding line_of_words
    says_ring n w = ap (λ i. Some (Ring i)) (at 0 (omega arith)) ∙ sym (yes _ _ (shaped_is ring_word 1 v ws w (omega (arith, many)) each))

    pub says_step : length ns ≡ 1 → bytes_eq v ring_word ≡ false → bytes_eq v step_word ≡ true → Some (Step (get_or ns 0 0)) ≡ line_of_words (v ∷ ws)
    unfolding line_of_words
    says_step n r w =
        ap (λ i. Some (Step i)) (at 0 (omega arith))
        ∙ sym (no _ _ (other_word ring_word 1 v ws r) ∙ no _ _ (other_count queue_word 5 v ws (λ e. absurd (omega (arith, many))))
        ∙ yes _ _ (shaped_is step_word 1 v ws w (omega (arith, many)) each))

    pub says_neither : length ns ≡ 1 → bytes_eq v ring_word ≡ false → bytes_eq v step_word ≡ false → None ≡ line_of_words (v ∷ ws)
    says_neither n r w =
        no_shape (v ∷ ws) (other_word ring_word 1 v ws r) (other_count queue_word 5 v ws (λ e. absurd (omega (arith, many)))) (other_word step_word 1 v ws w)

    pub says_queue : length ns ≡ 5 → bytes_eq v queue_word ≡ true
        → Some (Queue (get_or ns 0 0) (record { to = get_or ns 1 0; priority = get_or ns 2 0; channel = get_or ns 3 0; length = get_or ns 4 0; listens = true })) ≡ line_of_words (v ∷ ws)
    unfolding line_of_words
    says_queue n w =
        rw (at 0 (omega arith), at 1 (omega arith), at 2 (omega arith), at 3 (omega arith), at 4 (omega arith))
        (sym (no _ _ (other_count ring_word 1 v ws (λ e. absurd (omega (arith, many)))) ∙ yes _ _ (shaped_is queue_word 5 v ws w (omega (arith, many)) each)))

    pub says_five : length ns ≡ 5 → bytes_eq v queue_word ≡ false → None ≡ line_of_words (v ∷ ws)
    says_five n w =
        no_shape (v ∷ ws) (other_count ring_word 1 v ws (λ e. absurd (omega (arith, many)))) (other_word queue_word 5 v ws w)
        (other_count step_word 1 v ws (λ e. absurd (omega (arith, many))))

    pub says_other : (length ns ≡ 1 → ⊥) → (length ns ≡ 5 → ⊥) → None ≡ line_of_words (v ∷ ws)
    says_other a b = bad_count (λ e. a (many ∙ e)) (λ e. b (many ∙ e))

-- ---- word by word

pub number_yes : (w : List ℕ) (v : ℕ) → number_in w ≡ Some v → (is_number w ≡ true) × (value w ≡ v)
unfolding number_in pick
number_yes w v e = go (is_number w) e
  where
    go : (b : Bool) → pick b (Some (value w)) None ≡ Some v → (b ≡ true) × (value w ≡ v)
    go true e = (refl, same_Some _ _ e)
    go false e = absurd (none-some v e)

number_no : (w : List ℕ) → number_in w ≡ None → is_number w ≡ false
unfolding number_in pick
number_no w e = go (is_number w) e
  where
    go : (b : Bool) → pick b (Some (value w)) None ≡ None → b ≡ false
    go true e = absurd (none-some (value w) (sym e))
    go false e = refl

module _ (done : List (List ℕ)) (w : List ℕ) where
  -- one number more
  pub number_more : (ns : List ℕ) (v : ℕ) → list_all is_number done ≡ true → ns ≡ map value done → number_in w ≡ Some v
      → (list_all is_number (done ++ w ∷ []) ≡ true) × (ns ++ v ∷ [] ≡ map value (done ++ w ∷ []))
  number_more ns v e are n =
      let i = number_yes w v n in (
        list_all-append is_number done (w ∷ []) ∙ rw (e, i.0) refl,
        ap (λ l. l ++ v ∷ []) are ∙ ap (λ u. map value done ++ u ∷ []) (sym i.1) ∙ sym (map-append value done (w ∷ [])),
      )

  -- a word that is no number
  pub number_none : (v : List ℕ) (ws : List (List ℕ)) → number_in w ≡ None → None ≡ line_of_words (v ∷ (done ++ w ∷ ws))
  number_none v ws n =
      bad_numbers v (done ++ w ∷ ws)
      (list_all-append is_number done (w ∷ ws) ∙ ap (λ b. list_all is_number done && (b && list_all is_number ws)) (number_no w n) ∙ and-false (list_all is_number done))

  -- the sixth
  pub number_many : (v : List ℕ) (ws : List (List ℕ)) → length done ≡ 5 → None ≡ line_of_words (v ∷ (done ++ w ∷ ws))
  number_many v ws n =
      let l : length (done ++ w ∷ ws) ≡ length done + suc (length ws) = length-append done (w ∷ ws) in
      bad_count v (done ++ w ∷ ws) (λ e. omega arith) (λ e. omega arith)
