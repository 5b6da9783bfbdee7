-- `slip::whom_from` meets its contract.
use borrow.Author.Tests.{lt-ltb, le-ltb, eq-eqb, ne_eqb}
use Rattle.parts.specs.Choose.{pick}
use Rattle.records.specs.Fields.{whom_from}
use Rattle.records.proofs.slip.whom_from.Goals as goal

pub returns-then-k-eq0 : goal.returns-then-k-eq0
unfolding whom_from pick
returns-then-k-eq0 c = simp (eq-eqb _ _ c.if-k-eq0.true)

pub returns-then-k-gt256 : goal.returns-then-k-gt256
unfolding whom_from pick
returns-then-k-gt256 c = simp (ne_eqb _ _ c.if-k-eq0.false, lt-ltb _ _ c.if-k-gt256.true)

pub returns : goal.returns
unfolding whom_from pick
returns c = simp (ne_eqb _ _ c.if-k-eq0.false, le-ltb _ _ c.if-k-gt256.false)
