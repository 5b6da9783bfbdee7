-- `Station::take` meets its contract: the table of moves, then the checks, then the message is handed out.
use mathlib.Core.Path.{sym, ap, ◌∙◌}
use Rattle.station.specs.Take.{take_rule}
use Rattle.parts.specs.Refusals.{take_refusal}
use Rattle.std.specs.Prelude.{Option}
use Rattle.parts.specs.declared.list.Message.{Message}
use Rattle.station.proofs.Laws.Moved.{moved_runs, moved_stops, unless_passes, unless_refuses}
use Rattle.station.proofs.station.Station.take.Goals as goal

pub returns-then-m-ne-RUN : goal.returns-then-m-ne-RUN
unfolding take_rule
returns-then-m-ne-RUN c = c.answered.ensures ∙ sym (moved_stops _ _ _ c.move_of-m.ensures c.if-m-ne-RUN.true)

pub returns-then-k-ne0 : goal.returns-then-k-ne0
unfolding take_rule
returns-then-k-ne0 c = c.answered-then-k-ne0.ensures ∙ sym (moved_runs _ _ _ c.move_of-m.ensures c.if-m-ne-RUN.false ∙ unless_refuses _ _ _ (c.take_refusal-k.ensures ∙ ap (λ (b : Option Message). take_refusal c.args.channel b c.args.room) c.best_on-b.ensures) c.if-k-ne0.true)

pub returns : goal.returns
unfolding take_rule
returns c = c.taking.ensures ∙ rw (c.unwrap_or.ensures, c.best_on-b.ensures) (sym (moved_runs _ _ _ c.move_of-m.ensures c.if-m-ne-RUN.false ∙ unless_passes _ _ _ (c.take_refusal-k.ensures ∙ ap (λ (b : Option Message). take_refusal c.args.channel b c.args.room) c.best_on-b.ensures) c.if-k-ne0.false))
