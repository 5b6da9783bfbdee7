-- `timer::last_timer` meets its contract: one test, whether nobody else is left.
use mathlib.Core.Path.{sym, ap, ◌∙◌}
use Rattle.parts.proofs.Laws.Choose.{pick_true, pick_false}
use borrow.Author.Tests.{eq-eqb, ne_eqb}
use Rattle.sent.specs.declared.round.Sight.{Sight}
use Rattle.station.specs.Decide.{last_timer, live_without}
use Rattle.station.proofs.rules.timer.last_timer.Goals as goal

pub returns-then-v-s : goal.returns-then-v-s
unfolding last_timer live_without
returns-then-v-s c = c.strikes_out.ensures ∙ rw c.resting-turn.ensures (sym (pick_true _ _ (eq-eqb _ _ (ap (λ (v : Sight). v.next) (sym c.look_without-v.ensures) ∙ c.if-v-s.true))))

pub returns : goal.returns
unfolding last_timer live_without
returns c = c.going_on.ensures ∙ rw (c.resend-d.ensures, c.look_without-v.ensures) (sym (pick_false _ _ (ne_eqb _ _ (λ e. c.if-v-s.false (ap (λ (v : Sight). v.next) c.look_without-v.ensures ∙ e)))))
