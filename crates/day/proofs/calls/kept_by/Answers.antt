-- `calls::kept_by` meets its contract: what the same call leaves.
use mathlib.Core.Path.{ap}
use Rattle.day.specs.declared.calls.Answered.{Answered}
use Rattle.day.specs.declared.calls.Kept.{Kept}
use Rattle.day.proofs.calls.kept_by.Goals as goal

pub returns : goal.returns
returns c =
    ap (λ (d : Answered). let k : Kept = record { station = d.station; number = d.told.number } in k) c.do_call-d.ensures
