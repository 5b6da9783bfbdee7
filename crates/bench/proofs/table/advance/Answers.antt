-- `table::advance` meets its contract: the frame is handed round, and the new one printed.
use Rattle.bench.proofs.Laws.Stepping.{handing_asks, on_less, one_step}
use Rattle.bench.proofs.table.advance.Goals as goal

pub hand-reply-requires : goal.hand-reply-requires
hand-reply-requires c = (c.requires.0, handing_asks c.args.g c.handing_of-h.result c.handing_of-h.ensures)

pub print-requires : goal.print-requires
print-requires c = (on_less c.args.g c.requires.1.0, c.requires.1.1)

pub returns : goal.returns
returns c =
    let a = c.args in
    one_step a.g c.handing_of-h.result a.table.now c.hand-reply.new.table c.hand-reply.result c.print.result a.out.now c.print.new.out c.requires.1.0 c.handing_of-h.ensures
    c.hand-reply.ensures.0 c.hand-reply.ensures.1 c.print.ensures.0 c.print.ensures.1
