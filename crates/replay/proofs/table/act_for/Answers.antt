-- `table::act_for` meets its contract: what the record asks for is carried out.
use Rattle.std.proofs.Common.{arith}
use Rattle.replay.specs.Table.{plan_in, way_of}
use Rattle.replay.proofs.Laws.Marks.{asks_named, acts_named}
use Rattle.replay.proofs.table.act_for.Goals as goal

pub act-requires : goal.act-requires
act-requires c =
    let asks = asks_named c.handing_in-h.result (way_of c.args.g) c.args.g.read c.handing_in-h.ensures in
    (c.requires.0, (asks.0, (asks.1, omega (arith, c.place_in-p.ensures, c.requires.1))))

pub returns : goal.returns
returns c =
    acts_named c.handing_in-h.result c.place_in-p.result c.call_in-c.result c.args.table.now (plan_in (way_of c.args.g) c.args.g.read) c.act.result c.act.new.table
    c.handing_in-h.ensures c.place_in-p.ensures c.call_in-c.ensures c.act.ensures
