-- `list::higher` meets its contract: at each return the tests say whether the message becomes the highest.
use Rattle.std.proofs.Common.{sym, ◌∙◌}
use Rattle.parts.proofs.Laws.Messages.{higher_unfit, higher_first, higher_above, higher_kept}
use Rattle.parts.proofs.list.higher.Goals as goal

pub returns-then-not-suits : goal.returns-then-not-suits
returns-then-not-suits c =
    let a = c.args in
    sym (higher_unfit a.w a.t a.m a.i (sym c.suits.ensures ∙ c.if-not-suits.true))

pub returns-then-t-m : goal.returns-then-t-m
returns-then-t-m c =
    let a = c.args in
    sym (higher_above a.w a.t a.m a.i (sym c.suits.ensures ∙ c.if-not-suits.false) c.if-t-lt16.true c.if-t-m.true)

pub returns-then-t-lt16 : goal.returns-then-t-lt16
returns-then-t-lt16 c =
    let a = c.args in
    sym (higher_kept a.w a.t a.m a.i (sym c.suits.ensures ∙ c.if-not-suits.false) c.if-t-lt16.true c.if-t-m.false)

pub returns : goal.returns
returns c =
    let a = c.args in
    sym (higher_first a.w a.t a.m a.i (sym c.suits.ensures ∙ c.if-not-suits.false) c.if-t-lt16.false)
