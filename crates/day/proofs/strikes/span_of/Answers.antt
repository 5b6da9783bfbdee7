-- `strikes::span_of` meets its contract: one test.
use mathlib.Core.Path.{sym}
use Rattle.parts.proofs.Laws.Choose.{pick_true, pick_false}
use Rattle.day.specs.Strikes.{span}
use Rattle.day.proofs.strikes.span_of.Goals as goal

pub returns-then-h : goal.returns-then-h
unfolding span
returns-then-h c = sym (pick_true _ _ c.if-h.true)

pub returns-else-h : goal.returns-else-h
unfolding span
returns-else-h c = sym (pick_false _ _ c.if-h.false)
