-- `taking::lay_taken` meets its contract.
use borrow.Author.Tests.{le-leb, lt-leb}
use Rattle.parts.specs.Choose.{pick}
use Rattle.driver_calls.specs.Calls.{taken_into}
use Rattle.driver_calls.proofs.taking.lay_taken.Goals as goal

pub returns-then-part-room : goal.returns-then-part-room
unfolding taken_into pick
returns-then-part-room c = simp (le-leb _ _ c.if-part-room.true) c.copy.ensures

pub returns : goal.returns
unfolding taken_into pick
returns c = simp (lt-leb _ _ c.if-part-room.false)
