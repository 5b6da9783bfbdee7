-- `list::grown` meets its contract: one more where a message is taken.
use Rattle.std.proofs.Common.{sym}
use Rattle.parts.proofs.Laws.Choose.{pick_true, pick_false}
use Rattle.parts.proofs.list.grown.Goals as goal

pub returns-then-taken : goal.returns-then-taken
returns-then-taken c = sym (pick_true _ _ c.if-taken.true)

pub returns-else-taken : goal.returns-else-taken
returns-else-taken c = sym (pick_false _ _ c.if-taken.false)
