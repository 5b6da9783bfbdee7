-- `list::push` meets its contract: where there is room the message goes behind the last, else nothing changes.
use Rattle.std.proofs.Common.{sym}
use Rattle.parts.proofs.Laws.Messages.{pushed_inside, pushed_full}
use Rattle.parts.proofs.list.push.Goals as goal

pub returns-then-n-lt16 : goal.returns-then-n-lt16
returns-then-n-lt16 c = sym (pushed_inside c.args.l c.args.m c.if-n-lt16.true)

pub returns : goal.returns
returns c = sym (pushed_full c.args.l c.args.m c.if-n-lt16.false)
