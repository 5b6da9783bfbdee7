-- `going::goes_on` meets its contract: two tests.
use mathlib.Core.Path.{sym}
use Rattle.parts.proofs.Laws.Choose.{pick_true, pick_false}
use borrow.Author.Tests.{lt-ltb, le-ltb}
use Rattle.replay.proofs.going.goes_on.Goals as goal

pub returns-then-g : goal.returns-then-g
returns-then-g c = sym (pick_false _ _ (le-ltb _ _ c.if-g.true))

pub returns : goal.returns
returns c = sym (pick_true _ _ (lt-ltb _ _ c.if-g.false))
