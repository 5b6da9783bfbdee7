-- `turn::handled_from` meets its contract.
use borrow.Author.Tests.{eq-eqb, ne_eqb}
use Rattle.parts.specs.Choose.{pick}
use Rattle.records.specs.Fields.{handled_from}
use Rattle.records.proofs.turn.handled_from.Goals as goal

pub returns-then-flag-eq0 : goal.returns-then-flag-eq0
unfolding handled_from pick
returns-then-flag-eq0 c = simp (eq-eqb _ _ c.if-flag-eq0.true)

pub returns : goal.returns
unfolding handled_from pick
returns c = simp (ne_eqb _ _ c.if-flag-eq0.false)
