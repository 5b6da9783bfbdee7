-- `text::put_called` meets its contract: whom the station struck, and its frame.
use native.Mathlib.Omega.{arith}
use Rattle.bench.specs.Rows.{row_on}
use Rattle.bench.specs.Text.{rows_text}
use Rattle.day.specs.Printed.{struck_text}
use Rattle.day.proofs.Laws.Lines.{struck_short, row_most, calls_laid}
use Rattle.day.proofs.text.put_called.Goals as goal

pub put_wire-requires : goal.put_wire-requires
put_wire-requires c =
    let a = c.args in omega (arith, c.put_struck-a.ensures.1, struck_short a.t.struck a.p)

pub returns : goal.returns
returns c =
    let a = c.args in calls_laid a.out.now _ _ (struck_text a.t.struck a.p) (rows_text (row_on a.p a.t.sent)) a.at _ _ (omega (arith, struck_short a.t.struck a.p, row_most a.p a.t.sent)) c.put_struck-a.ensures c.put_wire.ensures
