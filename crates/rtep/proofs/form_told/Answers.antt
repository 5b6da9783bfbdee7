-- `form_told` meets its contract: its callee's, and the length told.
use mathlib.Core.Path.{ap}
use mathlib.Core.List.{[], ◌∷◌}
use Prim.Native.Nat.{ℕ}
use borrow.Author.Tests.{ne_eqb}
use Rattle.rtep.proofs.form_told.Goals as goal

pub returns-then-f-ne0 : goal.returns-then-f-ne0
returns-then-f-ne0 c =
    let f = c.to_form-f.ensures in
    record { answer = f.answer; out_is = f.out_is; told_is = simp (ne_eqb _ _ c.if-f-ne0.true) }

pub returns : goal.returns
returns c =
    record {
      answer = rw c.if-f-ne0.false at c.to_form-f.ensures.answer;
      out_is = rw c.if-f-ne0.false at c.to_form-f.ensures.out_is;
      told_is = ap (λ (k : ℕ). k ∷ []) (rw c.if-f-ne0.false at c.to_form-f.ensures.length_is);
    }
