-- `wire::push` meets its contract: where there is room the frame goes behind the last.
use mathlib.Core.Path.{sym}
use Rattle.parts.proofs.Laws.Choose.{pick_true, pick_false}
use borrow.Author.Tests.{lt-ltb, le-ltb}
use Rattle.day.specs.Wire.{pushed}
use Rattle.day.proofs.wire.push.Goals as goal

pub returns-then-n-lt64 : goal.returns-then-n-lt64
unfolding pushed
returns-then-n-lt64 c = sym (pick_true _ _ (lt-ltb _ _ c.if-n-lt64.true))

pub returns : goal.returns
unfolding pushed
returns c = sym (pick_false _ _ (le-ltb _ _ c.if-n-lt64.false))
