-- `record::rests_good` meets its contract: at each return the tests that led there say which is the first that fails.
use mathlib.Core.Path.{sym, ◌∙◌}
use Rattle.records.specs.Record.{rests_good}
use Rattle.parts.proofs.Laws.Tests.{holds, fails, last}
use Rattle.records.proofs.record.rests_good.Goals as goal

pub returns-then-not-rest_good : goal.returns-then-not-rest_good
unfolding rests_good
returns-then-not-rest_good c = sym (fails _ (sym c.rest_good.ensures ∙ c.if-not-rest_good.true))

pub returns : goal.returns
unfolding rests_good
returns c = sym (holds _ (sym c.rest_good.ensures ∙ c.if-not-rest_good.false) ∙ (last _ ∙ sym c.rest_good-2.ensures))
