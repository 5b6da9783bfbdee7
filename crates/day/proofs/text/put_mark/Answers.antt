-- `text::put_mark` meets its contract: one test.
use mathlib.Core.Path.{sym, ◌∙◌}
use Rattle.day.proofs.Laws.Lines.{mark_on, mark_off}
use Rattle.day.proofs.text.put_mark.Goals as goal

pub returns-then-live_at : goal.returns-then-live_at
returns-then-live_at c =
    let a = c.args in mark_on a.out.now _ a.at _ a.q a.l a.w (sym c.live_at.ensures ∙ c.if-live_at.true) c.put_struck.ensures

pub returns : goal.returns
returns c =
    let a = c.args in mark_off a.out.now a.at a.q a.l a.w (sym c.live_at.ensures ∙ c.if-live_at.false)
