-- `turn::state_from` meets its contract.
use borrow.Author.Tests.{eq-eqb, ne_eqb}
use Rattle.parts.specs.Choose.{pick}
use Rattle.records.specs.Fields.{state_from}
use Rattle.records.proofs.turn.state_from.Goals as goal

pub returns-then-k-eq0 : goal.returns-then-k-eq0
unfolding state_from pick
returns-then-k-eq0 c = simp (eq-eqb _ _ c.if-k-eq0.true)

pub returns-then-k-eq1 : goal.returns-then-k-eq1
unfolding state_from pick
returns-then-k-eq1 c = simp (ne_eqb _ _ c.if-k-eq0.false, eq-eqb _ _ c.if-k-eq1.true)

pub returns-then-k-eq2 : goal.returns-then-k-eq2
unfolding state_from pick
returns-then-k-eq2 c = simp (ne_eqb _ _ c.if-k-eq0.false, ne_eqb _ _ c.if-k-eq1.false, eq-eqb _ _ c.if-k-eq2.true)

pub returns-then-k-eq3 : goal.returns-then-k-eq3
unfolding state_from pick
returns-then-k-eq3 c = simp (ne_eqb _ _ c.if-k-eq0.false, ne_eqb _ _ c.if-k-eq1.false, ne_eqb _ _ c.if-k-eq2.false, eq-eqb _ _ c.if-k-eq3.true)

pub returns : goal.returns
unfolding state_from pick
returns c = simp (ne_eqb _ _ c.if-k-eq0.false, ne_eqb _ _ c.if-k-eq1.false, ne_eqb _ _ c.if-k-eq2.false, ne_eqb _ _ c.if-k-eq3.false)
