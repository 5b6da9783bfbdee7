-- `record::record_number` meets its contract: at each return the tests that led there say which is the first that holds.
use mathlib.Core.Path.{sym, ◌∙◌}
use borrow.Author.Tests.{lt-ltb, le-ltb, eq-eqb, ne_eqb}
use Rattle.capture.specs.Record.{record_number}
use Rattle.capture.proofs.record.record_number.Goals as goal

pub returns-then-f-gt4 : goal.returns-then-f-gt4
unfolding record_number
returns-then-f-gt4 c = rw (lt-ltb 4 _ c.if-f-gt4.true)

pub returns-then-outside : goal.returns-then-outside
unfolding record_number
returns-then-outside c = rw (le-ltb 4 _ c.if-f-gt4.false, sym c.outside.ensures ∙ c.if-outside.true)

pub returns-then-unused_set : goal.returns-then-unused_set
unfolding record_number
returns-then-unused_set c =
    rw (le-ltb 4 _ c.if-f-gt4.false, sym c.outside.ensures ∙ c.if-outside.false, sym c.unused_set.ensures ∙ c.if-unused_set.true)

pub returns-then-f-ne0 : goal.returns-then-f-ne0
unfolding record_number
returns-then-f-ne0 c =
    rw (le-ltb 4 _ c.if-f-gt4.false, sym c.outside.ensures ∙ c.if-outside.false, sym c.unused_set.ensures ∙ c.if-unused_set.false, ne_eqb _ 0 c.if-f-ne0.true)

pub returns : goal.returns
unfolding record_number
returns c =
    rw (le-ltb 4 _ c.if-f-gt4.false, sym c.outside.ensures ∙ c.if-outside.false, sym c.unused_set.ensures ∙ c.if-unused_set.false, eq-eqb _ 0 c.if-f-ne0.false)
