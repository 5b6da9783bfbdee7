-- A line of 36 octets or more is of no good shape: the longest is `queue` and five numbers of five digits, 35 octets. So of a line it is
-- enough to keep the first 40 octets: they say what the line says. Assumes nothing.
use Rattle.std.specs.Prelude.{ℕ, List, [], ◌∷◌, length, take, None}
use Rattle.std.proofs.Common.{◌≡◌, suc, ◌+◌, ◌*◌, ◌<◌, ◌≤◌, Bool, true, false, cond, eqb, leb, refl, sym, ap, ◌∙◌, arith}
use Rattle.std.specs.List.{onto_first, list_all}
use Rattle.std.specs.Str.{bytes_eq}
use Rattle.std.proofs.Math.Seq.{take_all, length-take-le}
use Rattle.std.proofs.lemmas.Bool.{leb-true, leb-false, and_parts}
use Rattle.std.proofs.lemmas.List.Splits.{length-slice_split}
use Rattle.std.proofs.lemmas.Slice.Eq.{bytes_eq-Decides}
use Rattle.bench.specs.Text.{space}
use Rattle.script.specs.Lines.{words, is_number, shaped, ring_word, queue_word, step_word, line_of}
use Rattle.script.proofs.Laws.Numbers.{number_short}
use Rattle.script.proofs.Laws.Lines.{shaped_parts, no_shape}

-- the octets of words, with one more behind each
abbrev span : List (List ℕ) → ℕ
span [] = 0
span (w ∷ ws) = suc (length w + span ws)

onto_span : (c : ℕ) (ws : List (List ℕ)) → 0 < length ws → span (onto_first c ws) ≡ suc (span ws)
onto_span c [] h = absurd (omega arith)
onto_span c (w ∷ ws) h = omega arith

words_some : (s : List ℕ) → 0 < length (words s)
unfolding words
words_some s = omega (arith, length-slice_split (λ c. eqb c space) s)

words_span : (s : List ℕ) → span (words s) ≡ suc (length s)
unfolding words
words_span [] = refl
words_span (c ∷ s) = go (eqb c space) (words_span s)
  where
    go : (b : Bool) → span (words s) ≡ suc (length s) → span (cond b ([] ∷ words s) (onto_first c (words s))) ≡ suc (suc (length s))
    go true h = omega (arith, h)
    go false h = onto_span c (words s) (words_some s) ∙ ap suc h

numbers_span : (ws : List (List ℕ)) → list_all is_number ws ≡ true → span ws ≤ 6 * length ws
numbers_span [] e = omega arith
numbers_span (w ∷ ws) e =
    let p = and_parts (is_number w) (list_all is_number ws) e in
    omega (arith, number_short w p.0, numbers_span ws p.1)

-- how long a good shape is
shape_short : (w : List ℕ) (k : ℕ) (v : List ℕ) (ws : List (List ℕ)) → shaped w k (v ∷ ws) ≡ true → span (v ∷ ws) ≤ suc (length w + 6 * k)
shape_short w k v ws e =
    let p : (bytes_eq v w ≡ true) × (length ws ≡ k) × (list_all is_number ws ≡ true) = shaped_parts w k v ws e in
    let l : length v ≡ length w = ap length ((bytes_eq-Decides v w).0 p.0) in
    let m : 6 * length ws ≡ 6 * k = ap (λ (j : ℕ). 6 * j) p.1 in
    omega (arith, numbers_span ws p.2)

no_shape_long : (w : List ℕ) (k : ℕ) (ws : List (List ℕ)) → suc (length w + 6 * k) < span ws → shaped w k ws ≡ false
no_shape_long w k [] h = absurd (omega arith)
no_shape_long w k (v ∷ ws) h = go (shaped w k (v ∷ ws)) refl
  where
    go : (b : Bool) → shaped w k (v ∷ ws) ≡ b → shaped w k (v ∷ ws) ≡ false
    go false e = e
    go true e = absurd (omega (arith, shape_short w k v ws e))

pub long_line_bad : (s : List ℕ) → 35 < length s → line_of s ≡ None
unfolding line_of
long_line_bad s h =
    let n : span (words s) ≡ suc (length s) = words_span s in
    sym (no_shape (words s) (no_shape_long ring_word 1 (words s) (omega arith)) (no_shape_long queue_word 5 (words s) (omega arith)) (no_shape_long step_word 1 (words s) (omega arith)))

-- the first 40 octets of a line say what it says
pub long_lines : (s : List ℕ) → line_of (take 40 s) ≡ line_of s
long_lines s = go (leb (length s) 40) refl
  where
    go : (b : Bool) → leb (length s) 40 ≡ b → line_of (take 40 s) ≡ line_of s
    go true e = ap line_of (take_all 40 s (leb-true (length s) 40 e))
    go false e =
        let h : 40 < length s = leb-false (length s) 40 e in
        let k : length (take 40 s) ≡ 40 = length-take-le 40 s (omega arith) in
        long_line_bad (take 40 s) (omega arith) ∙ sym (long_line_bad s (omega arith))
