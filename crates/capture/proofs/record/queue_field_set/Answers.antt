-- `record::queue_field_set` meets its contract.
use borrow.Author.Tests.{eq-eqb, ne_eqb}
use Rattle.capture.proofs.record.queue_field_set.Goals as goal

pub returns-then-f-ne0 : goal.returns-then-f-ne0
returns-then-f-ne0 c = rw (ne_eqb _ _ c.if-f-ne0.true)

pub returns-then-f-ne0-2 : goal.returns-then-f-ne0-2
returns-then-f-ne0-2 c = rw (eq-eqb _ _ c.if-f-ne0.false, ne_eqb _ _ c.if-f-ne0-2.true)

pub returns-then-f-ne0-3 : goal.returns-then-f-ne0-3
returns-then-f-ne0-3 c = rw (eq-eqb _ _ c.if-f-ne0.false, eq-eqb _ _ c.if-f-ne0-2.false, ne_eqb _ _ c.if-f-ne0-3.true)

pub returns : goal.returns
returns c =
    rw (eq-eqb _ _ c.if-f-ne0.false, eq-eqb _ _ c.if-f-ne0-2.false, eq-eqb _ _ c.if-f-ne0-3.false)
