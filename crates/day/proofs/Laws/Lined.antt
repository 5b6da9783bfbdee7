-- Laws of the lines of the frames on the wire. Assumes nothing.
use mathlib.Core.Path.{◌≡◌, sym, ap, subst, ◌∙◌}
use mathlib.Core.List.{List, [], ◌∷◌, ◌++◌, append-nil, append_assoc}
use Prim.Native.Nat.{ℕ, zero, suc, ◌+◌, ◌*◌, ◌<◌, ◌≤◌}
use native.Mathlib.Numerals.{add-one}
use native.Mathlib.Omega.{arith}
use lib.ListN.{length, get_or, take, length-append}
use lib.Seq.{take_all}
use Rattle.codec.specs.Octets.{laid}
use Rattle.codec.proofs.Laws.Octets.{laid_none}
use Rattle.bench.specs.Rows.{row_of}
use Rattle.bench.proofs.Laws.Laying.{laid_both, row_short}
use Rattle.day.specs.Printed.{flying_text, wire_text}
use Rattle.day.specs.Wire.{flying_of}
use Rattle.day.specs.declared.wire.Frames.{Frames}
use Rattle.day.specs.declared.wire.Flying.{Flying}
use Rattle.day.proofs.Laws.Wire.{flying_most}

pub flying_short : (f : Flying) → length (flying_text f) ≤ 32
flying_short f = row_short (row_of f.from f.frame f.to)

wire_short : (fs : List Flying) → length (wire_text fs) ≤ 32 * length fs
unfolding wire_text
wire_short [] = omega arith
wire_short (f ∷ fs) = omega (arith, length-append (flying_text f) (wire_text fs), flying_short f, wire_short fs)

taken_short : (k : ℕ) (fs : List Flying) → length (take k fs) ≤ k
taken_short zero fs = omega arith
taken_short (suc k) [] = omega arith
taken_short (suc k) (f ∷ fs) = omega (arith, taken_short k fs)

-- one more of them
wire_behind : (k : ℕ) (fs : List Flying) (d : Flying) → k < length fs → wire_text (take (suc k) fs) ≡ wire_text (take k fs) ++ flying_text (get_or fs k d)
unfolding wire_text
wire_behind k [] d less = absurd (omega arith)
wire_behind zero (f ∷ fs) d less = append-nil (flying_text f)
wire_behind (suc k) (f ∷ fs) d less =
    ap (λ (t : List ℕ). flying_text f ++ t) (wire_behind k fs d (omega arith)) ∙ sym (append_assoc (flying_text f) (wire_text (take k fs)) (flying_text (get_or fs k d)))

module _ (fs : List Flying) where
  -- i of them stand there
  abbrev pub Lined : List ℕ → List ℕ → ℕ → ℕ → ℕ → Type 0
  Lined l l₁ at end i = (l₁ ≡ laid l at (wire_text (take i fs))) × (end ≡ at + length (wire_text (take i fs)))

  pub lined_none : (l : List ℕ) (at : ℕ) → Lined l l at at 0
  unfolding wire_text
  lined_none l at = (sym (laid_none l at), omega arith)

  pub lined_room : (l l₁ : List ℕ) (at end i : ℕ) → at + 2048 ≤ length l → length l₁ ≡ length l → i < 64 → Lined l l₁ at end i → end + 32 ≤ length l₁
  lined_room l l₁ at end i room long less h = omega (arith, h.1, wire_short (take i fs), taken_short i fs, long)

  pub lined_more : (l l₁ l₂ : List ℕ) (at a b i : ℕ) (f d : Flying) → at + 2048 ≤ length l → i < 64 → i < length fs → f ≡ get_or fs i d → Lined l l₁ at a i
      → (l₂ ≡ laid l₁ a (flying_text f)) × (b ≡ a + length (flying_text f)) → Lined l l₂ at b (i + 1)
  lined_more l l₁ l₂ at a b i f d room less some e h p =
      let w : wire_text (take (i + 1) fs) ≡ wire_text (take i fs) ++ flying_text f = ap (λ (k : ℕ). wire_text (take k fs)) (add-one i) ∙ wire_behind i fs d some ∙ ap (λ (g : Flying). wire_text (take i fs) ++ flying_text g) (sym e) in
      rw w (laid_both l l₁ l₂ (wire_text (take i fs)) (flying_text f) at a b (omega (arith, wire_short (take i fs), taken_short i fs, flying_short f)) h.1 p.1 h.0 p.0)

  pub lined_all : (l l₁ : List ℕ) (at end i : ℕ) → length fs ≤ i → Lined l l₁ at end i → (l₁ ≡ laid l at (wire_text fs)) × (end ≡ at + length (wire_text fs))
  lined_all l l₁ at end i all h = subst (λ (gs : List Flying). (l₁ ≡ laid l at (wire_text gs)) × (end ≡ at + length (wire_text gs))) (take_all i fs all) h

-- all of them
pub wire_most : (w : Frames) → length w.items ≡ 64 → length (wire_text (flying_of w)) ≤ 2048
wire_most w size = omega (arith, wire_short (flying_of w), (flying_most w size).0)
