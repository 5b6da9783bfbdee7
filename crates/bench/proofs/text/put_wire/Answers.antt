-- `text::put_wire` meets its contract: the frame's line, or nothing.
use Rattle.bench.proofs.Laws.Running.{wire_none, wire_some}
use Rattle.bench.proofs.text.put_wire.Goals as goal

pub returns-in_default : goal.returns-in_default
returns-in_default c =
    let a = c.args in
    wire_none a.w a.out.now a.at c.in_default.is

pub returns : goal.returns
returns c =
    let a = c.args in
    wire_some a.w a.out.now a.at _ _ _ _ _ c.in-Some.is c.row_of-row.ensures c.put_row.ensures.0 c.put_row.ensures.1
