-- `list::split` meets its contract: each part is the one chosen.
use Rattle.parts.proofs.Laws.Messages.{both_parts}
use Rattle.parts.proofs.list.split.Goals as goal

pub returns : goal.returns
returns c = both_parts c.args.w c.args.l c.chosen-k.result c.chosen-g.result c.chosen-k.ensures c.chosen-g.ensures
