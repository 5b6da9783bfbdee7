-- `round::raised` meets its contract: one test, whether the head's priority is greater.
use mathlib.Core.Path.{sym, ap, ◌∙◌}
use Prim.Native.Nat.{ℕ}
use lib.Dec.{ltb}
use borrow.Author.Tests.{lt-ltb, le-ltb}
use Rattle.parts.proofs.Laws.Choose.{pick_true, pick_false}
use Rattle.sent.specs.Round.{raised}
use Rattle.sent.proofs.round.raised.Goals as goal

pub returns-then-b-p : goal.returns-then-b-p
unfolding raised
returns-then-b-p c = c.own_bid.ensures ∙ sym (pick_true _ _ (ap (λ (p : ℕ). ltb c.args.b.priority p) (sym c.priority_of-p.ensures) ∙ lt-ltb _ _ c.if-b-p.true))

pub returns : goal.returns
unfolding raised
returns c = sym (pick_false _ _ (ap (λ (p : ℕ). ltb c.args.b.priority p) (sym c.priority_of-p.ensures) ∙ le-ltb _ _ c.if-b-p.false))
