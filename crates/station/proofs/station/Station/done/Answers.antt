-- `Station::done` meets its contract: one test, whether the turn alone changes.
use mathlib.Core.Path.{sym, ◌∙◌}
use Rattle.parts.proofs.Laws.Choose.{pick_true, pick_false}
use Rattle.station.specs.Deeds.{done_by}
use Rattle.station.proofs.station.Station.done.Goals as goal

pub returns-then-v : goal.returns-then-v
unfolding done_by
returns-then-v c = c.turn_alone.ensures ∙ sym (pick_true _ _ c.if-v.true)

pub returns : goal.returns
unfolding done_by
returns c = c.carried_out.ensures ∙ sym (pick_false _ _ c.if-v.false)
