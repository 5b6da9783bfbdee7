-- `start::starting` meets its contract: one test, whether it is station 0.
use mathlib.Core.Path.{sym, ◌∙◌}
use Rattle.parts.proofs.Laws.Choose.{pick_true, pick_false}
use borrow.Author.Tests.{eq-eqb, ne_eqb}
use Rattle.station.specs.Decide.{starting}
use Rattle.station.proofs.rules.start.starting.Goals as goal

pub returns-then-s-eq0 : goal.returns-then-s-eq0
unfolding starting
returns-then-s-eq0 c = c.turn_to.ensures ∙ rw (c.waiting-next.ensures, c.start_round-d.ensures, c.look-v.ensures) (sym (pick_true _ _ (eq-eqb _ _ c.if-s-eq0.true)))

pub returns : goal.returns
unfolding starting
returns c = c.turn_to-2.ensures ∙ rw c.resting-next.ensures (sym (pick_false _ _ (ne_eqb _ _ c.if-s-eq0.false)))
