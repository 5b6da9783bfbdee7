-- `round::returned` meets its contract: at each return the tests that led there say which is the first that holds.
use mathlib.Core.Path.{◌∙◌}
use borrow.Author.Tests.{eq-eqb, ne_eqb}
use Rattle.sent.specs.Round.{returned}
use Rattle.sent.proofs.round.returned.Goals as goal

pub returns-then-priority-eq0 : goal.returns-then-priority-eq0
unfolding returned
returns-then-priority-eq0 c = c.start_round.ensures ∙ rw (eq-eqb _ _ c.if-priority-eq0.true)

pub returns-then-named-v : goal.returns-then-named-v
unfolding returned
returns-then-named-v c = c.send_head.ensures ∙ rw (ne_eqb _ _ c.if-priority-eq0.false, eq-eqb _ _ c.if-named-v.true)

pub returns : goal.returns
unfolding returned
returns c = c.grant.ensures ∙ rw (ne_eqb _ _ c.if-priority-eq0.false, ne_eqb _ _ c.if-named-v.false)
