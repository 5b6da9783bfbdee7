-- `heard::reply` meets its contract: each part is its callee's.
use mathlib.Core.Path.{◌∙◌}
use Rattle.station.specs.Decide.{replying}
use Rattle.station.proofs.rules.heard.reply.Goals as goal

pub returns : goal.returns
unfolding replying
returns c = c.verdict_of.ensures ∙ rw (c.stores_too-deeds.ensures, c.to_store-stores.ensures, c.waiting-turn.ensures, c.reply-sent.ensures, c.look_after-v.ensures, c.failing_of-w.ensures, c.number_of-number.ensures)
