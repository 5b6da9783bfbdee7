-- `frame::fit_information` meets its contract: at each return the tests that led there say which comes first.
use Rattle.std.proofs.Common.{le-ltb, lt-ltb, eq-eqb, ne_eqb}
use Rattle.parts.specs.Choose.{pick}
use Rattle.parts.proofs.frame.fit_information.Goals as goal

pub returns-then-i-eq0 : goal.returns-then-i-eq0
unfolding pick
returns-then-i-eq0 c = simp (eq-eqb _ _ c.if-i-eq0.true)

pub returns-then-i-gt7 : goal.returns-then-i-gt7
unfolding pick
returns-then-i-gt7 c = simp (ne_eqb _ _ c.if-i-eq0.false, lt-ltb _ _ c.if-i-gt7.true)

pub returns : goal.returns
unfolding pick
returns c = simp (ne_eqb _ _ c.if-i-eq0.false, le-ltb _ _ c.if-i-gt7.false)
