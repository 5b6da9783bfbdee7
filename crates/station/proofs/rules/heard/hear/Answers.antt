-- `heard::hear` meets its contract: one test, whether anything more is to be done.
use mathlib.Core.Path.{sym, ◌∙◌}
use Rattle.station.proofs.Laws.Decide.{hears_quietly, hears_replying}
use Rattle.station.proofs.rules.heard.hear.Goals as goal

pub returns-then-nothing_more : goal.returns-then-nothing_more
returns-then-nothing_more c = c.quietly.ensures ∙ hears_quietly _ _ _ _ _ _ c.number_of-number.ensures (sym c.nothing_more.ensures ∙ c.if-nothing_more.true)

pub returns : goal.returns
returns c = c.reply.ensures ∙ hears_replying _ _ _ _ _ _ c.number_of-number.ensures (sym c.nothing_more.ensures ∙ c.if-nothing_more.false)
