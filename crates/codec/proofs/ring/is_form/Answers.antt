-- `ring::is_form` meets its contract.
use borrow.Author.Tests.{eq-eqb, ne_eqb}
use Rattle.codec.proofs.ring.is_form.Goals as goal

pub returns-then-form-eq1 : goal.returns-then-form-eq1
returns-then-form-eq1 c = simp (eq-eqb _ _ c.if-form-eq1.true)

pub returns : goal.returns
returns c = simp (ne_eqb _ _ c.if-form-eq1.false)
