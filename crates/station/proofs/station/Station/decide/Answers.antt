-- `Station::decide` meets its contract: the table of moves, then the checks, then the steps.
use mathlib.Core.Path.{sym, ◌∙◌}
use Rattle.parts.proofs.Laws.Choose.{pick_true, pick_false}
use borrow.Author.Tests.{eq-eqb, ne_eqb}
use Rattle.station.specs.Decide.{decided}
use Rattle.station.proofs.station.Station.decide.Goals as goal

pub returns-then-m-ne-RUN : goal.returns-then-m-ne-RUN
unfolding decided
returns-then-m-ne-RUN c = c.refuse.ensures ∙ rw c.move_of-m.ensures (sym (pick_false _ _ (ne_eqb _ _ (λ e. c.if-m-ne-RUN.true (c.move_of-m.ensures ∙ e)))))

pub returns-then-k-ne0 : goal.returns-then-k-ne0
unfolding decided
returns-then-k-ne0 c = c.refuse-then-k-ne0.ensures ∙ rw c.checks-k.ensures (sym (pick_true _ _ (eq-eqb _ _ (sym c.move_of-m.ensures ∙ c.if-m-ne-RUN.false)) ∙ pick_false _ _ (ne_eqb _ _ (λ e. c.if-k-ne0.true (c.checks-k.ensures ∙ e)))))

pub returns : goal.returns
unfolding decided
returns c = c.hear.ensures ∙ rw (c.course_of-course.ensures, c.acknowledged-acked.ensures, c.number_of-number.ensures) (sym (pick_true _ _ (eq-eqb _ _ (sym c.move_of-m.ensures ∙ c.if-m-ne-RUN.false)) ∙ pick_true _ _ (eq-eqb _ _ (sym c.checks-k.ensures ∙ c.if-k-ne0.false))))
