-- `text::put_stopped` meets its contract: four parts, side by side.
use native.Mathlib.Omega.{arith}
use Rattle.bench.specs.Text.{space}
use Rattle.bench.proofs.Laws.Laying.{cell_short}
use Rattle.day.proofs.Laws.Lines.{stopped_laid}
use Rattle.day.proofs.text.put_stopped.Goals as goal

pub copy-requires-2 : goal.copy-requires-2
copy-requires-2 c =
    omega (arith, c.put_cell-a.ensures.1, cell_short c.args.number space)

pub overflow_add-a : goal.overflow_add-a
overflow_add-a c =
    omega (arith, c.put_cell-a.ensures.1, cell_short c.args.number space)

pub put_cell-requires : goal.put_cell-requires
put_cell-requires c =
    omega (arith, c.put_cell-a.ensures.1, cell_short c.args.number space)

pub returns : goal.returns
returns c =
    let a = c.args in stopped_laid a.out.now _ _ _ _ a.at _ _ a.number a.index c.requires c.copy.ensures c.put_cell-a.ensures.0 c.put_cell-a.ensures.1 c.copy-2.ensures c.put_cell.ensures.0 c.put_cell.ensures.1
