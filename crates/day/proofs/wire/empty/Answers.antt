-- `wire::empty` meets its contract.
use mathlib.Core.Path.{ap}
use Rattle.day.proofs.Laws.Asking.{frames_of}
use Rattle.day.proofs.wire.empty.Goals as goal

pub returns : goal.returns
returns c = ap frames_of c.blank-none.ensures
