-- `delivery::hears` meets its contract: the tests in their order.
use mathlib.Core.Path.{sym}
use Rattle.bench.proofs.Laws.Delivered.{hearing_sender, hearing_lost, hearing_whole}
use Rattle.bench.proofs.delivery.hears.Goals as goal

pub returns-then-p-h : goal.returns-then-p-h
returns-then-p-h c =
    let a = c.args in
    sym (hearing_sender a.h.lost a.h.from a.h.to a.p c.if-p-h.true)

pub returns-then-h : goal.returns-then-h
returns-then-h c = sym (hearing_lost _ _ _ _ c.if-h.true c.if-p-h.false)

pub returns : goal.returns
returns c = sym (hearing_whole _ _ _ _ c.if-h.false c.if-p-h.false)
