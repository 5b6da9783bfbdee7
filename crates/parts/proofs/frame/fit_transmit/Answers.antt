-- `frame::fit_transmit` meets its contract: at each return the tests that led there say which comes first.
use Rattle.std.proofs.Common.{eq-eqb, ne_eqb, le-leb}
use borrow.Author.Tests.{lt-leb}
use Rattle.parts.specs.Choose.{pick}
use Rattle.parts.proofs.frame.fit_transmit.Goals as goal

pub returns-then-t-eq0 : goal.returns-then-t-eq0
unfolding pick
returns-then-t-eq0 c = simp (eq-eqb _ _ c.if-t-eq0.true)

pub returns-then-n-t : goal.returns-then-n-t
unfolding pick
returns-then-n-t c = simp (ne_eqb _ _ c.if-t-eq0.false, le-leb _ _ c.if-n-t.true)

pub returns : goal.returns
unfolding pick
returns c = simp (ne_eqb _ _ c.if-t-eq0.false, lt-leb _ _ c.if-n-t.false)
