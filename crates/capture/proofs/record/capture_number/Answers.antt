-- `record::capture_number` meets its contract: at each return the tests that led there say which is the first that holds.
use borrow.Author.Tests.{lt-ltb, le-ltb, eq-eqb, ne_eqb}
use Rattle.capture.specs.Record.{capture_number}
use Rattle.capture.proofs.record.capture_number.Goals as goal

pub returns-then-s-ne0 : goal.returns-then-s-ne0
unfolding capture_number
returns-then-s-ne0 c = rw (ne_eqb _ _ c.if-s-ne0.true)

pub returns-then-s-gt-MOST : goal.returns-then-s-gt-MOST
unfolding capture_number
returns-then-s-gt-MOST c = rw (eq-eqb _ _ c.if-s-ne0.false, lt-ltb _ _ c.if-s-gt-MOST.true)

pub returns : goal.returns
unfolding capture_number
returns c = rw (eq-eqb _ _ c.if-s-ne0.false, le-ltb _ _ c.if-s-gt-MOST.false)
