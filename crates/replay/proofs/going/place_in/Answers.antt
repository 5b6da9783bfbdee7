-- `going::place_in` meets its contract.
use mathlib.Core.Path.{ap}
use Rattle.day.specs.declared.plan.Plan.{Plan}
use Rattle.replay.proofs.going.place_in.Goals as goal

pub returns : goal.returns
returns c = ap (λ (p : Plan). p.place) c.plan_of-p.ensures
