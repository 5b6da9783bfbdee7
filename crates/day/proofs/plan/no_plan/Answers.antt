-- `going::no_plan` meets its contract.
use mathlib.Core.Path.{ap}
use Rattle.std.specs.Prelude.{None}
use Rattle.bench.specs.declared.table.Handing.{Handing}
use Rattle.day.specs.Plans.{plan_of}
use Rattle.day.proofs.plan.no_plan.Goals as goal

pub returns : goal.returns
returns c = ap (λ (h : Handing). plan_of h 0 None) c.no_handing-handing.ensures
