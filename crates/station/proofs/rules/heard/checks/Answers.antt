-- `heard::checks` meets its contract: the checks are asked of the station's fields.
use mathlib.Core.Path.{◌∙◌}
use Rattle.station.proofs.rules.heard.checks.Goals as goal

pub returns : goal.returns
returns c = c.heard_refusal.ensures ∙ rw c.live_at-alive.ensures
