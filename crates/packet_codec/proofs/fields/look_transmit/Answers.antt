-- `fields::look_transmit` meets its contract: at each return the tests that led there say which is the first that holds.
use mathlib.Core.Path.{sym, ◌∙◌}
use borrow.Author.Tests.{eq-eqb, ne_eqb}
use Rattle.packet_codec.proofs.fields.look_transmit.Goals as goal

pub returns-then-p-eq0 : goal.returns-then-p-eq0
returns-then-p-eq0 c = simp (eq-eqb _ _ c.if-p-eq0.true)

pub returns-then-not-belongs : goal.returns-then-not-belongs
returns-then-not-belongs c = simp (ne_eqb _ _ c.if-p-eq0.false, sym c.belongs.ensures ∙ c.if-not-belongs.true)

pub returns-then-p-ne0 : goal.returns-then-p-ne0
returns-then-p-ne0 c = simp (ne_eqb _ _ c.if-p-eq0.false, sym c.belongs.ensures ∙ c.if-not-belongs.false, ne_eqb _ _ c.if-p-ne0.true)

pub returns-then-not-belongs-2 : goal.returns-then-not-belongs-2
returns-then-not-belongs-2 c = simp (ne_eqb _ _ c.if-p-eq0.false, sym c.belongs.ensures ∙ c.if-not-belongs.false, eq-eqb _ _ c.if-p-ne0.false, sym c.belongs-2.ensures ∙ c.if-not-belongs-2.true)

pub returns : goal.returns
returns c = simp (ne_eqb _ _ c.if-p-eq0.false, sym c.belongs.ensures ∙ c.if-not-belongs.false, eq-eqb _ _ c.if-p-ne0.false, sym c.belongs-2.ensures ∙ c.if-not-belongs-2.false)
