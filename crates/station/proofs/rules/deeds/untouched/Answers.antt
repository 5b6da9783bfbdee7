-- `deeds::untouched` meets its contract: at each return the tests that led there.
use mathlib.Core.Path.{sym, ◌∙◌}
use Rattle.station.specs.Deeds.{untouched}
use Rattle.parts.specs.Choose.{pick}
use Rattle.station.proofs.rules.deeds.untouched.Goals as goal

pub returns-then-is_some : goal.returns-then-is_some
unfolding untouched pick
returns-then-is_some c = rw (sym c.is_some.ensures ∙ c.if-is_some.true)

pub returns-in-None : goal.returns-in-None
unfolding untouched pick
returns-in-None c = rw (sym c.is_some.ensures ∙ c.if-is_some.false, c.in-Spares.is, c.in-None.is)

pub returns-in-Some : goal.returns-in-Some
unfolding untouched pick
returns-in-Some c = rw (sym c.is_some.ensures ∙ c.if-is_some.false, c.in-Spares.is, c.in-Some.is)

pub returns-in-Another : goal.returns-in-Another
unfolding untouched pick
returns-in-Another c = rw (sym c.is_some.ensures ∙ c.if-is_some.false, c.in-Another.is)

pub returns-in-Last : goal.returns-in-Last
unfolding untouched pick
returns-in-Last c = rw (sym c.is_some.ensures ∙ c.if-is_some.false, c.in-Last.is)

pub returns-in-Itself : goal.returns-in-Itself
unfolding untouched pick
returns-in-Itself c = rw (sym c.is_some.ensures ∙ c.if-is_some.false, c.in-Itself.is)
