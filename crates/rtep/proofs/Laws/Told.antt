-- Laws of what a driver is told. Assumes nothing.
use mathlib.Core.Path.{◌≡◌, sym, ◌∙◌}
use mathlib.Core.Bool.{Bool, true, false, cond}
use mathlib.Core.List.{List, []}
use Prim.Native.Nat.{ℕ}
use native.Mathlib.Omega.{arith}
use borrow.Author.Tests.{ne_eqb}
use lib.Dec.{ltb}
use lib.ListN.{length}
use Rattle.std.specs.Prelude.{None}
use Rattle.rtep.specs.Told.{made_refusal, WriteTold}

refused : (b : Bool) → ◌≡◌ {A = ℕ} (cond b 9 12) 0 → ⊥
refused true e = omega arith
refused false e = omega arith

-- what is no packet is refused, and nothing changes
pub nothing_told : (ring info out told : List ℕ) (r : ℕ) → r ≡ made_refusal [] None 0 (length out) → WriteTold ring None info out told r out told
unfolding made_refusal
nothing_told ring info out told r e =
    let n : r ≡ 0 → ⊥ = λ z. refused (ltb (length out) 1500) (sym e ∙ z) in
    record { answer = e; out_is = simp (ne_eqb r 0 n); told_is = simp (ne_eqb r 0 n) }
