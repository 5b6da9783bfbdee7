-- `Station::decide_start` meets its contract: the table of moves, then what is decided.
use mathlib.Core.Path.{sym, ◌∙◌}
use Rattle.parts.proofs.Laws.Choose.{pick_true, pick_false}
use borrow.Author.Tests.{eq-eqb, ne_eqb}
use Rattle.station.specs.Decide.{decided_start}
use Rattle.station.proofs.station.Station.decide_start.Goals as goal

pub returns-then-m-ne-RUN : goal.returns-then-m-ne-RUN
unfolding decided_start
returns-then-m-ne-RUN c = c.refuse.ensures ∙ rw c.move_of-m.ensures (sym (pick_false _ _ (ne_eqb _ _ (λ e. c.if-m-ne-RUN.true (c.move_of-m.ensures ∙ e)))))

pub returns : goal.returns
unfolding decided_start
returns c = c.starting.ensures ∙ sym (pick_true _ _ (eq-eqb _ _ (sym c.move_of-m.ensures ∙ c.if-m-ne-RUN.false)))
