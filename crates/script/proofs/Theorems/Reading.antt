-- A script that is read octet by octet, with the first 40 octets of each line kept, prints what its lines print. Assumes nothing.
use Rattle.std.proofs.Common.{◌≡◌, ◌+◌, ◌<◌, ◌≤◌, Bool, true, false, eqb, ltb, refl, sym, ap, ◌∙◌, subst, append_assoc, append-nil, length-append, length-set, length-take, arith}
use Rattle.std.specs.Prelude.{ℕ, List, [], ◌∷◌, ◌++◌, length, take, set, Option}
use Rattle.std.proofs.Math.Seq.{take_all, take-append-le}
use Rattle.std.proofs.lemmas.List.{take_more_set}
use Rattle.std.proofs.lemmas.Bool.{lt-ltb, le-ltb, ltb-true, ltb-false}
use Rattle.parts.proofs.Laws.Choose.{pick_true, pick_false}
use Rattle.bench.specs.Text.{line_feed}
use Rattle.script.specs.Lines.{line_of, opening, lines_of}
use Rattle.script.specs.Script.{Session, unbegun, does, prints, printed, output}
use Rattle.script.specs.Reading.{no_held, kept_of, keep_one, Keeps, told}
use Rattle.script.specs.declared.reading.Held.{Held}
use Rattle.script.specs.declared.lines.Line.{Line}
use Rattle.script.proofs.Laws.Reading.{keep_room, keep_full}
use Rattle.script.proofs.Theorems.LongLines.{long_lines}

-- ---- what is kept of a line

none_kept : Keeps no_held []
none_kept = record { long = refl; many = refl; kept = refl }

module _ (h : Held) (x : List ℕ) (c : ℕ) (k : Keeps h x) where
  length_more : length (x ++ c ∷ []) ≡ length x + 1
  length_more = length-append x (c ∷ [])

  kept_room : h.len < 40 → Keeps (record { octets = set h.octets h.len c; len = h.len + 1 }) (x ++ c ∷ [])
  kept_room r =
      let n : length x < 40 = omega (arith, k.many, length-take 40 x) in
      let w : take 40 x ≡ x = take_all 40 x (omega arith) in
      let v : take 40 (x ++ c ∷ []) ≡ x ++ c ∷ [] = take_all 40 (x ++ c ∷ []) (omega (arith, length_more)) in
      let m : h.len ≡ length x = k.many ∙ ap length w in
      let t : take (h.len + 1) (set h.octets h.len c) ≡ take h.len h.octets ++ c ∷ [] =
      take_more_set h.octets h.len c (omega (arith, k.long)) in
      record {
        long = length-set h.octets h.len c ∙ k.long;
        many = omega (arith, ap length v, length_more);
        kept = t ∙ ap (λ (l : List ℕ). l ++ c ∷ []) (k.kept ∙ w) ∙ sym v;
      }

  kept_full : 40 ≤ h.len → Keeps h (x ++ c ∷ [])
  kept_full r =
      let n : 40 ≤ length x = omega (arith, k.many, length-take 40 x) in
      let v : take 40 (x ++ c ∷ []) ≡ take 40 x = take-append-le 40 x (c ∷ []) n in
      record { long = k.long; many = k.many ∙ ap length (sym v); kept = k.kept ∙ sym v }

  kept_more : Keeps (keep_one h c) (x ++ c ∷ [])
  kept_more = go (ltb h.len 40) refl
    where
      go : (b : Bool) → ltb h.len 40 ≡ b → Keeps (keep_one h c) (x ++ c ∷ [])
      go true e =
          let r : h.len < 40 = ltb-true h.len 40 e in
          subst (λ (g : Held). Keeps g (x ++ c ∷ [])) (keep_room h c r) (kept_room r)
      go false e =
          let r : 40 ≤ h.len = ltb-false h.len 40 e in
          subst (λ (g : Held). Keeps g (x ++ c ∷ [])) (keep_full h c r) (kept_full r)

-- they say what the line says
pub kept_line : (h : Held) (x : List ℕ) → Keeps h x → line_of (kept_of h) ≡ line_of x
kept_line h x k = ap line_of k.kept ∙ long_lines x

-- ---- the input's lines

-- no octet of it is a line feed
abbrev Within : List ℕ → Type 0
Within [] = Unit {0}
Within (c ∷ x) = (eqb c line_feed ≡ false) × Within x

within_more : (x : List ℕ) (c : ℕ) → Within x → eqb c line_feed ≡ false → Within (x ++ c ∷ [])
within_more [] c w e = (e, tt)
within_more (d ∷ x) c w e = (w.0, within_more x c w.1 e)

lines_end : lines_of [] ≡ []
unfolding lines_of
lines_end = refl

lines_first : (c : ℕ) (i : List ℕ) → eqb c line_feed ≡ true → lines_of (c ∷ i) ≡ [] ∷ lines_of i
unfolding lines_of
lines_first c i e = pick_true _ _ e

lines_within : (c : ℕ) (i : List ℕ) → eqb c line_feed ≡ false → lines_of (c ∷ i) ≡ opening c (lines_of i)
unfolding lines_of
lines_within c i e = pick_false _ _ e

lines_feed : (x : List ℕ) (c : ℕ) (i : List ℕ) → Within x → eqb c line_feed ≡ true → lines_of (x ++ c ∷ i) ≡ x ∷ lines_of i
lines_feed [] c i w e = lines_first c i e
lines_feed (d ∷ x) c i w e = lines_within d (x ++ c ∷ i) w.0 ∙ ap (opening d) (lines_feed x c i w.1 e)

lines_last : (c : ℕ) (x : List ℕ) → Within (c ∷ x) → lines_of (c ∷ x) ≡ (c ∷ x) ∷ []
lines_last c [] w = lines_within c [] w.0 ∙ ap (opening c) lines_end
lines_last c (d ∷ x) w = lines_within c (d ∷ x) w.0 ∙ ap (opening c) (lines_last d x w.1)

-- ---- the whole

told_feed : (s : Session) (h : Held) (c : ℕ) (i : List ℕ) → eqb c line_feed ≡ true
    → told s h (c ∷ i) ≡ prints s (line_of (kept_of h)) ++ told (does s (line_of (kept_of h))) no_held i
unfolding told
told_feed s h c i e = pick_true _ _ e

told_within : (s : Session) (h : Held) (c : ℕ) (i : List ℕ) → eqb c line_feed ≡ false → told s h (c ∷ i) ≡ told s (keep_one h c) i
unfolding told
told_within s h c i e = pick_false _ _ e

told_none : (s : Session) (h : Held) → h.len ≡ 0 → told s h [] ≡ []
unfolding told
told_none s h e = pick_false _ _ (le-ltb 0 h.len (omega arith))

told_last : (s : Session) (h : Held) → 0 < h.len → told s h [] ≡ prints s (line_of (kept_of h))
unfolding told
told_last s h l = pick_true _ _ (lt-ltb 0 h.len l)

printed_none : (s : Session) → printed s [] ≡ []
unfolding printed
printed_none s = refl

printed_more : (s : Session) (l : List ℕ) (ls : List (List ℕ)) → printed s (l ∷ ls) ≡ prints s (line_of l) ++ printed (does s (line_of l)) ls
unfolding printed
printed_more s l ls = refl

told_lines : (i : List ℕ) (s : Session) (h : Held) (x : List ℕ) → Keeps h x → Within x → told s h i ≡ printed s (lines_of (x ++ i))
told_lines [] s h [] k w = told_none s h k.many ∙ sym (ap (printed s) lines_end ∙ printed_none s)
told_lines [] s h (c ∷ x) k w =
    told_last s h (omega (arith, k.many))
    ∙ ap (prints s) (kept_line h (c ∷ x) k)
    ∙ sym (ap (λ (l : List ℕ). printed s (lines_of l)) (append-nil (c ∷ x)) ∙ ap (printed s) (lines_last c x w) ∙ printed_more s (c ∷ x) []
    ∙ ap (λ (l : List ℕ). prints s (line_of (c ∷ x)) ++ l) (printed_none (does s (line_of (c ∷ x)))) ∙ append-nil (prints s (line_of (c ∷ x))))
told_lines (c ∷ i) s h x k w =
    go (eqb c line_feed) refl (told_lines i (does s (line_of x)) no_held [] none_kept tt)
    (λ e. told_lines i s (keep_one h c) (x ++ c ∷ []) (kept_more h x c k) (within_more x c w e))
  where
    go : (b : Bool) → eqb c line_feed ≡ b → told (does s (line_of x)) no_held i ≡ printed (does s (line_of x)) (lines_of i)
        → (eqb c line_feed ≡ false → told s (keep_one h c) i ≡ printed s (lines_of ((x ++ c ∷ []) ++ i)))
        → told s h (c ∷ i) ≡ printed s (lines_of (x ++ c ∷ i))
    go true e next on =
        told_feed s h c i e
        ∙ ap (λ (l : Option Line). prints s l ++ told (does s l) no_held i) (kept_line h x k)
        ∙ ap (λ (t : List ℕ). prints s (line_of x) ++ t) next
        ∙ sym (ap (printed s) (lines_feed x c i w e) ∙ printed_more s x (lines_of i))
    go false e next on = told_within s h c i e ∙ on e ∙ ap (λ (l : List ℕ). printed s (lines_of l)) (append_assoc x (c ∷ []) i)

-- "The program reads standard input": line by line, and the last line feed may be missing
pub reading : (input : List ℕ) → told unbegun no_held input ≡ output input
unfolding output
reading input = told_lines input unbegun no_held [] none_kept tt
