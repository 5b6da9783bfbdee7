-- `turn::turn_good` meets its contract: at each return the tests that led there say which is the first that fails.
use mathlib.Core.Path.{◌≡◌, sym, ap, ◌∙◌}
use mathlib.Core.Bool.{Bool}
use Prim.Native.Nat.{ℕ}
use Rattle.records.specs.Fields.{state_good, handled_good, slip_good, turn_good}
use Rattle.parts.proofs.Laws.Tests.{holds, fails, last}
use Rattle.records.proofs.turn.turn_good.Goals as goal

-- a test of two numbers that were read
of_two : (f : ℕ → ℕ → Bool) {a b c d : ℕ} → a ≡ c → b ≡ d → f c d ≡ f a b
of_two f p q = rw (p, q)

pub returns-then-not-state_good : goal.returns-then-not-state_good
unfolding turn_good
returns-then-not-state_good c = sym (fails _ (ap state_good (sym c.get.ensures.0) ∙ (sym c.state_good.ensures ∙ c.if-not-state_good.true)))

pub returns-then-not-handled_good : goal.returns-then-not-handled_good
unfolding turn_good
returns-then-not-handled_good c = sym (holds _ (ap state_good (sym c.get.ensures.0) ∙ (sym c.state_good.ensures ∙ c.if-not-state_good.false)) ∙ fails _ (of_two handled_good c.get-2.ensures.0 c.get-3.ensures.0 ∙ (sym c.handled_good.ensures ∙ c.if-not-handled_good.true)))

pub returns : goal.returns
unfolding turn_good
returns c = sym (holds _ (ap state_good (sym c.get.ensures.0) ∙ (sym c.state_good.ensures ∙ c.if-not-state_good.false)) ∙ (holds _ (of_two handled_good c.get-2.ensures.0 c.get-3.ensures.0 ∙ (sym c.handled_good.ensures ∙ c.if-not-handled_good.false)) ∙ (last _ ∙ (ap slip_good (sym c.slip_at.ensures) ∙ sym c.slip_good.ensures))))
