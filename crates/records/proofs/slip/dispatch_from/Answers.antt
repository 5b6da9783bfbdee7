-- `slip::dispatch_from` meets its contract.
use borrow.Author.Tests.{eq-eqb, ne_eqb}
use Rattle.parts.specs.Choose.{pick}
use Rattle.records.specs.Fields.{dispatch_from}
use Rattle.records.proofs.slip.dispatch_from.Goals as goal

pub returns-then-p-eq0 : goal.returns-then-p-eq0
unfolding dispatch_from pick
returns-then-p-eq0 c = simp (eq-eqb _ _ c.if-p-eq0.true)

pub returns-then-p-eq1 : goal.returns-then-p-eq1
unfolding dispatch_from pick
returns-then-p-eq1 c = simp (ne_eqb _ _ c.if-p-eq0.false, eq-eqb _ _ c.if-p-eq1.true, c.whom_from-failing.ensures)

pub returns-then-p-eq2 : goal.returns-then-p-eq2
unfolding dispatch_from pick
returns-then-p-eq2 c = simp (ne_eqb _ _ c.if-p-eq0.false, ne_eqb _ _ c.if-p-eq1.false, eq-eqb _ _ c.if-p-eq2.true)

pub returns : goal.returns
unfolding dispatch_from pick
returns c = simp (ne_eqb _ _ c.if-p-eq0.false, ne_eqb _ _ c.if-p-eq1.false, ne_eqb _ _ c.if-p-eq2.false)
