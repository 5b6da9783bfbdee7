-- `record::outside` meets its contract.
use borrow.Author.Tests.{le-leb, lt-leb}
use Rattle.capture.proofs.record.outside.Goals as goal

pub returns-then-n-f : goal.returns-then-n-f
returns-then-n-f c = rw (le-leb _ _ c.if-n-f.true)

pub returns : goal.returns
returns c = rw (lt-leb _ _ c.if-n-f.false)
