-- Numbers stored one behind the other are laid over. Assumes nothing.
use mathlib.Core.Path.{◌≡◌, refl, sym, ap, ◌∙◌}
use mathlib.Core.List.{List, [], ◌∷◌, ◌++◌}
use Prim.Native.Nat.{ℕ, suc, ◌+◌, ◌<◌, ◌≤◌}
use native.Mathlib.Omega.{arith}
use lib.ListN.{length, set}
use Rattle.codec.specs.Octets.{laid}
use Rattle.codec.proofs.Laws.Octets.{laid_none, laid_behind, laid_before}

module _ (l : List ℕ) (at : ℕ) where
  first_stored : (a : ℕ) → at < length l → set l at a ≡ laid l at (a ∷ [])
  first_stored a h = ap (λ (o : List ℕ). set o at a) (sym (laid_none l (suc at))) ∙ laid_before l [] at a h

  next_stored : (x o : List ℕ) (k b : ℕ) → length x ≡ k → at + k < length l → o ≡ laid l at x → set o (at + k) b ≡ laid l at (x ++ (b ∷ []))
  next_stored x o k b e h p =
      ap (λ (q : List ℕ). set q (at + k) b) p
      ∙ ap (λ (n : ℕ). set (laid l at x) (at + n) b) (sym e)
      ∙ laid_behind l x at b (rw e h)

  pub four_stored : (a b c d : ℕ) → at + 4 ≤ length l
      → set (set (set (set l at a) (at + 1) b) (at + 2) c) (at + 3) d ≡ laid l at (a ∷ b ∷ c ∷ d ∷ [])
  four_stored a b c d h =
      next_stored (a ∷ b ∷ c ∷ []) _ 3 d refl (omega arith)
      (next_stored (a ∷ b ∷ []) _ 2 c refl (omega arith)
      (next_stored (a ∷ []) _ 1 b refl (omega arith)
      (first_stored a (omega arith))))

  pub five_stored : (a b c d e : ℕ) → at + 5 ≤ length l
      → set (set (set (set (set l at a) (at + 1) b) (at + 2) c) (at + 3) d) (at + 4) e ≡ laid l at (a ∷ b ∷ c ∷ d ∷ e ∷ [])
  five_stored a b c d e h = next_stored (a ∷ b ∷ c ∷ d ∷ []) _ 4 e refl (omega arith) (four_stored a b c d (omega arith))
