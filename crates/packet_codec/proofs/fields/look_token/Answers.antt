-- `fields::look_token` meets its contract: at each return the tests that led there say which is the first that holds.
use mathlib.Core.Path.{sym, ◌∙◌}
use Rattle.packet_codec.proofs.fields.look_token.Goals as goal

pub returns-then-not-belongs : goal.returns-then-not-belongs
returns-then-not-belongs c = simp (sym c.belongs.ensures ∙ c.if-not-belongs.true)

pub returns-then-failing_bad : goal.returns-then-failing_bad
returns-then-failing_bad c = simp (sym c.belongs.ensures ∙ c.if-not-belongs.false, sym c.failing_bad.ensures ∙ c.if-failing_bad.true)

pub returns-then-not-belongs-2 : goal.returns-then-not-belongs-2
returns-then-not-belongs-2 c = simp (sym c.belongs.ensures ∙ c.if-not-belongs.false, sym c.failing_bad.ensures ∙ c.if-failing_bad.false, sym c.belongs-2.ensures ∙ c.if-not-belongs-2.true)

pub returns : goal.returns
returns c = simp (sym c.belongs.ensures ∙ c.if-not-belongs.false, sym c.failing_bad.ensures ∙ c.if-failing_bad.false, sym c.belongs-2.ensures ∙ c.if-not-belongs-2.false)
