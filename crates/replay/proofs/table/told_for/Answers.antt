-- `table::told_for` meets its contract: the call that the record asks for, of the station that it asks for.
use Rattle.std.proofs.Common.{◌∙◌}
use Rattle.replay.specs.Table.{plan_in, way_of}
use Rattle.replay.proofs.Laws.Marks.{told_named}
use Rattle.replay.proofs.table.told_for.Goals as goal

pub returns : goal.returns
returns c =
    c.told_at.ensures
    ∙ told_named c.place_in-p.result c.call_in-c.result c.args.table.now (plan_in (way_of c.args.g) c.args.g.read) c.place_in-p.ensures c.call_in-c.ensures
