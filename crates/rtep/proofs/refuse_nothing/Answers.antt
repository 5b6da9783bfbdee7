-- `refuse_nothing` meets its contract.
use borrow.Author.Tests.{lt-ltb, le-ltb}
use Rattle.rtep.specs.Told.{made_refusal}
use Rattle.rtep.proofs.refuse_nothing.Goals as goal

pub returns-then-room-lt-LONGEST : goal.returns-then-room-lt-LONGEST
unfolding made_refusal
returns-then-room-lt-LONGEST c = simp (lt-ltb _ _ c.if-room-lt-LONGEST.true)

pub returns : goal.returns
unfolding made_refusal
returns c = simp (le-ltb _ _ c.if-room-lt-LONGEST.false)
