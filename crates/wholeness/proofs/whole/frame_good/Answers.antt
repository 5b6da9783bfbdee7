-- `whole::frame_good` meets its contract: at each return the tests that led there say which is the first that fails.
use mathlib.Core.Path.{sym, ◌∙◌}
use borrow.Author.Tests.{lt-ltb, le-ltb, eq-eqb, ne_eqb}
use Rattle.parts.specs.Choose.{pick, all_of}
use Rattle.wholeness.specs.Whole.{awaited_good}
use Rattle.wholeness.proofs.Laws.Whole.{test_last}
use Rattle.wholeness.proofs.whole.frame_good.Goals as goal

pub returns-then-not-is_waiting : goal.returns-then-not-is_waiting
unfolding awaited_good all_of pick
returns-then-not-is_waiting c = simp (sym c.is_waiting.ensures ∙ c.if-not-is_waiting.true)

pub returns-then-not-fit : goal.returns-then-not-fit
unfolding awaited_good all_of pick
returns-then-not-fit c = simp (sym c.is_waiting.ensures ∙ c.if-not-is_waiting.false, sym c.fit.ensures ∙ c.if-not-fit.true)

pub returns-then-n-to : goal.returns-then-n-to
unfolding awaited_good all_of pick
returns-then-n-to c = simp (sym c.is_waiting.ensures ∙ c.if-not-is_waiting.false, sym c.fit.ensures ∙ c.if-not-fit.false, le-ltb _ _ c.if-n-to.true)

pub returns-then-to-own : goal.returns-then-to-own
unfolding awaited_good all_of pick
returns-then-to-own c = simp (sym c.is_waiting.ensures ∙ c.if-not-is_waiting.false, sym c.fit.ensures ∙ c.if-not-fit.false, lt-ltb _ _ c.if-n-to.false, eq-eqb _ _ c.if-to-own.true)

pub returns : goal.returns
unfolding awaited_good all_of pick
returns c = simp (sym c.is_waiting.ensures ∙ c.if-not-is_waiting.false, sym c.fit.ensures ∙ c.if-not-fit.false, lt-ltb _ _ c.if-n-to.false, ne_eqb _ _ c.if-to-own.false) (c.carried.ensures ∙ sym (test_last _))
