-- Laws of a run of zero octets: its number is 0. Assumes nothing.
use mathlib.Core.Path.{◌≡◌, sym, ap, ◌∙◌}
use mathlib.Core.List.{List}
use Prim.Native.Nat.{ℕ, zero, suc, ◌+◌, ◌-◌, ◌*◌, ◌≤◌}
use native.Mathlib.Nat.{zero-add, add-zero}
use native.Mathlib.Numerals.{add-one}
use native.Mathlib.Omega.{arith}
use borrow.Author.Tests.{eq-eqb}
use lib.ListN.{length, get_or}
use Rattle.codec.specs.Octets.{number_at, first_nonzero}
use Rattle.codec.proofs.Laws.Octets.{number_more}

-- octets whose number is 0 are passed
pub zeros_first : (s : List ℕ) (at k j : ℕ) → at + k ≤ length s → number_at s at k ≡ 0 → first_nonzero s at (k + j) ≡ first_nonzero s (at + k) j
zeros_first s at zero j h e = rw (zero-add j, add-zero at)
zeros_first s at (suc k) j h e =
    let m : number_at s at k * 256 + get_or s (at + k) 0 ≡ 0 = sym (number_more s at k (omega arith)) ∙ ap (number_at s at) (add-one k) ∙ e in
    let last : get_or s (at + k) 0 ≡ 0 = omega arith in
    let front : number_at s at k ≡ 0 = omega arith in
    let step : first_nonzero s (at + k) (suc j) ≡ first_nonzero s (suc (at + k)) j = rw (eq-eqb (get_or s (at + k) 0) 0 last) in
    let one_later : suc k + j ≡ k + suc j = omega arith in
    let next : suc (at + k) ≡ at + suc k = omega arith in
    ap (first_nonzero s at) one_later ∙ zeros_first s at k (suc j) (omega arith) front ∙ step ∙ ap (λ (n : ℕ). first_nonzero s n j) next

-- the same as a loop has it that goes by k octets before an end
pub zeros_more : (s : List ℕ) (i k end : ℕ) → i + k ≤ end → end ≤ length s → number_at s i k ≡ 0 → first_nonzero s i (end - i) ≡ first_nonzero s (i + k) (end - (i + k))
zeros_more s i k end more within e =
    let rest : end - i ≡ k + (end - (i + k)) = omega arith in
    rw rest (zeros_first s i k (end - (i + k)) (omega arith) e)
