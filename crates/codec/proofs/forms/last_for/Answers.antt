-- `forms::last_for` meets its contract.
use borrow.Author.Tests.{eq-eqb, ne_eqb}
use Rattle.codec.proofs.forms.last_for.Goals as goal

pub returns-then-asked-eq2 : goal.returns-then-asked-eq2
returns-then-asked-eq2 c = simp (eq-eqb _ _ c.if-asked-eq2.true)

pub returns-else-asked-eq2 : goal.returns-else-asked-eq2
returns-else-asked-eq2 c = simp (ne_eqb _ _ c.if-asked-eq2.false)
