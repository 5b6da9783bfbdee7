-- `calls::told_by` meets its contract: what one call tells.
use mathlib.Core.Path.{ap}
use Rattle.day.specs.declared.calls.Answered.{Answered}
use Rattle.day.proofs.calls.told_by.Goals as goal

pub returns : goal.returns
returns c = ap (λ (d : Answered). d.told) c.do_call-d.ensures
