-- `ring::last_bad` meets its contract.
use borrow.Author.Tests.{eq-eqb, ne_eqb}
use Rattle.codec.proofs.ring.last_bad.Goals as goal

pub returns-then-form-ne2 : goal.returns-then-form-ne2
returns-then-form-ne2 c = simp (ne_eqb _ _ c.if-form-ne2.true)

pub returns-then-last-eq0 : goal.returns-then-last-eq0
returns-then-last-eq0 c = simp (eq-eqb _ _ c.if-form-ne2.false, eq-eqb _ _ c.if-last-eq0.true)

pub returns : goal.returns
returns c = simp (eq-eqb _ _ c.if-form-ne2.false, ne_eqb _ _ c.if-last-eq0.false)
