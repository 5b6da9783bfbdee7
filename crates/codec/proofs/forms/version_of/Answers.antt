-- `forms::version_of` meets its contract.
use borrow.Author.Tests.{eq-eqb, ne_eqb}
use Rattle.codec.proofs.forms.version_of.Goals as goal

pub returns-then-head-eq2 : goal.returns-then-head-eq2
returns-then-head-eq2 c = simp (eq-eqb _ _ c.if-head-eq2.true)

pub returns-else-head-eq2 : goal.returns-else-head-eq2
returns-else-head-eq2 c = simp (ne_eqb _ _ c.if-head-eq2.false)
