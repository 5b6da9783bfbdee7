-- `record::fields_good` meets its contract: at each return the tests that led there say which is the first that fails.
use mathlib.Core.Path.{sym, ◌∙◌}
use Rattle.records.specs.Record.{fields_good}
use Rattle.parts.proofs.Laws.Tests.{holds, fails, last}
use Rattle.records.proofs.record.fields_good.Goals as goal

pub returns-then-not-pad_good : goal.returns-then-not-pad_good
unfolding fields_good
returns-then-not-pad_good c = sym (fails _ (sym c.pad_good.ensures ∙ c.if-not-pad_good.true))

pub returns-then-not-turn_good : goal.returns-then-not-turn_good
unfolding fields_good
returns-then-not-turn_good c = sym (holds _ (sym c.pad_good.ensures ∙ c.if-not-pad_good.false) ∙ fails _ (sym c.turn_good.ensures ∙ c.if-not-turn_good.true))

pub returns : goal.returns
unfolding fields_good
returns c = sym (holds _ (sym c.pad_good.ensures ∙ c.if-not-pad_good.false) ∙ (holds _ (sym c.turn_good.ensures ∙ c.if-not-turn_good.false) ∙ (last _ ∙ sym c.flags_good.ensures)))
