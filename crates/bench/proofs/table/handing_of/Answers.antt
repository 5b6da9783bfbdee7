-- `table::handing_of` meets its contract: a frame on the wire, or none.
use Rattle.bench.proofs.Laws.Stepping.{handing_sent, handing_none}
use Rattle.bench.proofs.table.handing_of.Goals as goal

pub returns-in-Some : goal.returns-in-Some
returns-in-Some c =
    let a = c.args in
    handing_sent a.g _ c.seats-m.ensures _ _ _ c.in-Some.is c.is_quiet-quiet.ensures

pub returns-in-None : goal.returns-in-None
returns-in-None c = handing_none c.args.g _ c.seats-m.ensures c.in-None.is
