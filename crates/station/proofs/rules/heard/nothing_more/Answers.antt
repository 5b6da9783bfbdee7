-- `heard::nothing_more` meets its contract: at each return the tests that led there say which is the first that holds.
use mathlib.Core.Path.{sym, ap, ◌∙◌}
use mathlib.Core.Bool.{not}
use borrow.Author.Tests.{eq-eqb, ne_eqb}
use Rattle.station.proofs.rules.heard.nothing_more.Goals as goal

pub returns-then-to-own : goal.returns-then-to-own
returns-then-to-own c = simp (ne_eqb _ _ c.if-to-own.true)

pub returns-then-is_last : goal.returns-then-is_last
returns-then-is_last c = simp (eq-eqb _ _ c.if-to-own.false, sym c.is_last.ensures ∙ c.if-is_last.true)

pub returns-then-not-is_idle : goal.returns-then-not-is_idle
returns-then-not-is_idle c = simp (eq-eqb _ _ c.if-to-own.false, sym c.is_last.ensures ∙ c.if-is_last.false, ap not (sym c.is_idle.ensures ∙ c.if-not-is_idle.true))

pub returns : goal.returns
returns c = simp (eq-eqb _ _ c.if-to-own.false, sym c.is_last.ensures ∙ c.if-is_last.false, ap not (sym c.is_idle.ensures ∙ c.if-not-is_idle.false))
