-- `frame::acknowledges` meets its contract: the awaited frame's constructor decides.
use Rattle.parts.specs.Frames.{acknowledges}
use Rattle.parts.proofs.frame.acknowledges.Goals as goal

pub returns-in-None : goal.returns-in-None
unfolding acknowledges
returns-in-None c = rw c.in-None.is

pub returns-in-Some : goal.returns-in-Some
unfolding acknowledges
returns-in-Some c = simp (c.in-Some.is, c.is_ahead.ensures, c.number_of-own.ensures)
