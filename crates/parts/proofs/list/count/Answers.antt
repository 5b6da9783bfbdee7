-- `list::count` meets its contract: the test says which of the two numbers it is.
use Rattle.std.proofs.Common.{sym}
use Rattle.parts.proofs.Laws.Messages.{used_inside, used_full}
use Rattle.parts.proofs.list.count.Goals as goal

pub returns-then-l-lt16 : goal.returns-then-l-lt16
returns-then-l-lt16 c = sym (used_inside c.args.l c.if-l-lt16.true)

pub returns-else-l-lt16 : goal.returns-else-l-lt16
returns-else-l-lt16 c = sym (used_full c.args.l c.if-l-lt16.false)
