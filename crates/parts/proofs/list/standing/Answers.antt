-- `list::standing` meets its contract: the test says whether a message stands there.
use Rattle.std.proofs.Common.{sym}
use Rattle.parts.proofs.Laws.Messages.{standing_on, standing_off}
use Rattle.parts.proofs.list.standing.Goals as goal

pub returns-then-at-lt16 : goal.returns-then-at-lt16
returns-then-at-lt16 c = sym (standing_on c.args.l c.args.at c.if-at-lt16.true)

pub returns : goal.returns
returns c = sym (standing_off c.args.l c.args.at c.if-at-lt16.false)
