-- `head::stride` meets its contract.
use borrow.Author.Tests.{eq-eqb, ne_eqb}
use Rattle.codec.proofs.head.stride.Goals as goal

pub returns-then-form-eq2 : goal.returns-then-form-eq2
returns-then-form-eq2 c = simp (eq-eqb _ _ c.if-form-eq2.true)

pub returns-else-form-eq2 : goal.returns-else-form-eq2
returns-else-form-eq2 c = simp (ne_eqb _ _ c.if-form-eq2.false)
