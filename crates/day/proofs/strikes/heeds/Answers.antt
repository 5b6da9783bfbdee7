-- `strikes::heeds` meets its contract: the tests in their order.
use Prim.Native.Nat.{ℕ}
use lib.Dec.{eqb}
use mathlib.Core.Path.{sym, ap, ◌∙◌}
use Rattle.parts.proofs.Laws.Choose.{pick_true, pick_false}
use borrow.Author.Tests.{lt-leb, le-leb, eq-eqb, ne_eqb}
use Rattle.day.specs.Strikes.{heeds}
use Rattle.day.proofs.strikes.heeds.Goals as goal

pub returns-then-h-p : goal.returns-then-h-p
unfolding heeds
returns-then-h-p c = sym (pick_true _ _ (le-leb _ _ c.if-h-p.true))

pub returns-then-not-hears : goal.returns-then-not-hears
unfolding heeds
returns-then-not-hears c =
    sym (pick_false _ _ (lt-leb _ _ c.if-h-p.false) ∙ pick_false _ _ (sym c.hears.ensures ∙ c.if-not-hears.true))

pub returns-then-move_of-ne-RUN : goal.returns-then-move_of-ne-RUN
unfolding heeds
returns-then-move_of-ne-RUN c =
    sym (pick_false _ _ (lt-leb _ _ c.if-h-p.false) ∙ pick_true _ _ (sym c.hears.ensures ∙ c.if-not-hears.false) ∙ pick_false _ _ (ne_eqb _ _ (λ z. c.if-move_of-ne-RUN.true (c.move_of.ensures ∙ z))))

pub returns : goal.returns
unfolding heeds
returns c =
    ap (λ (n : ℕ). eqb n 0) c.checks.ensures
    ∙ sym (pick_false _ _ (lt-leb _ _ c.if-h-p.false) ∙ pick_true _ _ (sym c.hears.ensures ∙ c.if-not-hears.false) ∙ pick_true _ _ (eq-eqb _ _ (sym c.move_of.ensures ∙ c.if-move_of-ne-RUN.false)))
