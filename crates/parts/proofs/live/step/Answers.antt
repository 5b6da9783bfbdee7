-- `live::step` meets its contract: the tests say which of the two positions it is.
use Rattle.std.proofs.Common.{sym, arith}
use Rattle.parts.proofs.Laws.Live.{after_inside, after_last}
use Rattle.parts.proofs.live.step.Goals as goal

pub returns-then-n-p : goal.returns-then-n-p
returns-then-n-p c = sym (after_last _ _ (omega arith))

pub returns-then-p-n : goal.returns-then-p-n
returns-then-p-n c = sym (after_inside _ _ c.if-p-n.true)

pub returns-else-p-n : goal.returns-else-p-n
returns-else-p-n c = sym (after_last _ _ c.if-p-n.false)
