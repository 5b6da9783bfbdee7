-- `record::event_of` meets its contract: at each return the tests that led there say which kind it is.
use borrow.Author.Tests.{eq-eqb, ne_eqb}
use Rattle.capture.specs.Record.{event_of}
use Rattle.capture.proofs.record.event_of.Goals as goal

pub returns-then-f-eq0 : goal.returns-then-f-eq0
unfolding event_of
returns-then-f-eq0 c = rw (eq-eqb _ _ c.if-f-eq0.true)

pub returns-then-f-eq1 : goal.returns-then-f-eq1
unfolding event_of
returns-then-f-eq1 c = rw (ne_eqb _ _ c.if-f-eq0.false, eq-eqb _ _ c.if-f-eq1.true)

pub returns-then-f-eq2 : goal.returns-then-f-eq2
unfolding event_of
returns-then-f-eq2 c = rw (ne_eqb _ _ c.if-f-eq0.false, ne_eqb _ _ c.if-f-eq1.false, eq-eqb _ _ c.if-f-eq2.true)

pub returns-then-f-eq3 : goal.returns-then-f-eq3
unfolding event_of
returns-then-f-eq3 c =
    rw (ne_eqb _ _ c.if-f-eq0.false, ne_eqb _ _ c.if-f-eq1.false, ne_eqb _ _ c.if-f-eq2.false, eq-eqb _ _ c.if-f-eq3.true)

pub returns : goal.returns
unfolding event_of
returns c =
    rw (ne_eqb _ _ c.if-f-eq0.false, ne_eqb _ _ c.if-f-eq1.false, ne_eqb _ _ c.if-f-eq2.false, ne_eqb _ _ c.if-f-eq3.false)
