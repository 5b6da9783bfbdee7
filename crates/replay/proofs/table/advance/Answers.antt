-- `table::advance` meets its contract: who strikes, what is told and what is sent is looked at on the table as it was, and then printed.
use Rattle.replay.proofs.Laws.Marks.{advanced_named}
use Rattle.replay.proofs.table.advance.Goals as goal

pub returns : goal.returns
returns c =
    let a = c.args in
    advanced_named a.g a.table.now a.out.now c.strikers_for-l.result c.act_for-reply.result c.told_for-t.result c.print.result c.act_for-reply.new.table c.print.new.out
    c.strikers_for-l.ensures c.told_for-t.ensures c.act_for-reply.ensures c.print.ensures
