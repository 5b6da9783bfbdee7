-- `timer::silence` meets its contract: below the limit the frame goes again.
use mathlib.Core.Path.{sym, ◌∙◌}
use Rattle.parts.proofs.Laws.Choose.{pick_true, pick_false}
use borrow.Author.Tests.{lt-ltb, le-ltb}
use Rattle.station.specs.Decide.{decided_silence}
use Rattle.station.proofs.rules.timer.silence.Goals as goal

pub returns-then-t-s : goal.returns-then-t-s
unfolding decided_silence
returns-then-t-s c = c.turn_to.ensures ∙ rw c.more_turn-turn.ensures (sym (pick_true _ _ (lt-ltb _ _ c.if-t-s.true)))

pub returns : goal.returns
unfolding decided_silence
returns c = c.last_timer.ensures ∙ sym (pick_false _ _ (le-ltb _ _ c.if-t-s.false))
