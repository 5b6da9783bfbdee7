-- `Station::decide_timer` meets its contract: the table of moves, then by the constructor.
use mathlib.Core.Path.{sym, ◌∙◌}
use Rattle.parts.proofs.Laws.Choose.{pick_true, pick_false}
use borrow.Author.Tests.{eq-eqb, ne_eqb}
use Rattle.station.specs.Decide.{decided_awaiting, decided_timer}
use Rattle.station.proofs.station.Station.decide_timer.Goals as goal

pub returns-then-m-ne-RUN : goal.returns-then-m-ne-RUN
unfolding decided_timer
returns-then-m-ne-RUN c = c.refuse.ensures ∙ rw c.move_of-m.ensures (sym (pick_false _ _ (ne_eqb _ _ (λ e. c.if-m-ne-RUN.true (c.move_of-m.ensures ∙ e)))))

pub returns-in-None : goal.returns-in-None
unfolding decided_timer decided_awaiting
returns-in-None c = c.refuse-in-None.ensures ∙ sym (pick_true _ _ (eq-eqb _ _ (sym c.move_of-m.ensures ∙ c.if-m-ne-RUN.false)) ∙ rw c.in-None.is)

pub returns-in-Some : goal.returns-in-Some
unfolding decided_timer decided_awaiting
returns-in-Some c = c.silence.ensures ∙ sym (pick_true _ _ (eq-eqb _ _ (sym c.move_of-m.ensures ∙ c.if-m-ne-RUN.false)) ∙ rw c.in-Some.is)
