-- `calls::overfills` meets its contract: two tests.
use mathlib.Core.Path.{sym, ◌∙◌}
use Rattle.parts.proofs.Laws.Choose.{pick_true, pick_false}
use Rattle.day.proofs.calls.overfills.Goals as goal

pub returns-then-room : goal.returns-then-room
returns-then-room c = sym (pick_true _ _ c.if-room.true)

pub returns : goal.returns
returns c = c.is_sent.ensures ∙ sym (pick_false _ _ c.if-room.false)
