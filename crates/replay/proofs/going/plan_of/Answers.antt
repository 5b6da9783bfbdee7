-- `going::plan_of` meets its contract: an event, or nothing to do.
use mathlib.Core.Path.{sym, ◌∙◌}
use Rattle.replay.specs.Table.{way_of}
use Rattle.replay.proofs.Laws.Turns.{plan_made, plan_refused, plan_end}
use Rattle.replay.proofs.going.plan_of.Goals as goal

pub returns-in-Good : goal.returns-in-Good
returns-in-Good c =
    let a = c.args in
    plan_made (way_of a.g) a.g.read _ _ _ _ _ c.in-Good.is c.handing_for-handing.ensures c.place_for-place.ensures c.call_for-call.ensures

pub returns-in-Refused : goal.returns-in-Refused
returns-in-Refused c =
    let a = c.args in c.no_plan.ensures ∙ sym (plan_refused (way_of a.g) a.g.read _ c.in-Refused.is)

pub returns-in-End : goal.returns-in-End
returns-in-End c =
    let a = c.args in c.no_plan-in-End.ensures ∙ sym (plan_end (way_of a.g) a.g.read c.in-End.is)
