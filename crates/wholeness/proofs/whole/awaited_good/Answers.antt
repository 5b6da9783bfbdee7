-- `whole::awaited_good` meets its contract: a frame, or none.
use mathlib.Core.Path.{ap, ◌∙◌}
use mathlib.Core.Bool.{not}
use Rattle.wholeness.specs.Whole.{awaited_good}
use Rattle.wholeness.proofs.whole.awaited_good.Goals as goal

pub returns-in-None : goal.returns-in-None
unfolding awaited_good
returns-in-None c = rw c.in-None.is (ap not c.is_waiting.ensures)

pub returns-in-Some : goal.returns-in-Some
returns-in-Some c = c.frame_good.ensures ∙ rw c.in-Some.is
