-- `heard::blow_at` meets its contract: at each return the tests that led there.
use mathlib.Core.Path.{sym, ◌∙◌}
use borrow.Author.Tests.{eq-eqb, ne_eqb}
use Rattle.parts.proofs.Laws.Choose.{pick_true}
use Rattle.station.specs.Decide.{blow_at}
use Rattle.parts.specs.Choose.{pick}
use Rattle.station.proofs.rules.heard.blow_at.Goals as goal

pub returns-then-p-own : goal.returns-then-p-own
unfolding blow_at pick
returns-then-p-own c = sym (pick_true _ _ (eq-eqb _ _ c.if-p-own.true))

pub returns-then-next-own : goal.returns-then-next-own
unfolding blow_at pick
returns-then-next-own c = rw (ne_eqb _ _ c.if-p-own.false, sym c.without-rest.ensures, eq-eqb _ _ (sym c.successor-next.ensures ∙ c.if-next-own.true))

pub returns : goal.returns
unfolding blow_at pick
returns c = rw (ne_eqb _ _ c.if-p-own.false, sym c.without-rest.ensures, ne_eqb _ _ (λ e. c.if-next-own.false (c.successor-next.ensures ∙ e)))
