-- `list::choose` meets its contract: what stands at the position chosen is the best.
use Rattle.std.proofs.Common.{◌∙◌}
use Rattle.parts.proofs.list.choose.Goals as goal

pub returns : goal.returns
returns c = c.standing.ensures ∙ c.chosen_at-at.ensures
