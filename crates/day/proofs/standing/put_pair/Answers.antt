-- `standing::put_pair` meets its contract: one cell behind the other.
use native.Mathlib.Omega.{arith}
use Rattle.bench.specs.Text.{space, cell}
use Rattle.bench.proofs.Laws.Laying.{laid_both, cell_short}
use Rattle.day.proofs.standing.put_pair.Goals as goal

pub put_cell-requires : goal.put_cell-requires
put_cell-requires c =
    omega (arith, c.put_cell-a.ensures.1, cell_short c.args.v space)

pub returns : goal.returns
returns c =
    let a = c.args in
    laid_both a.out.now _ _ (cell a.v space) (cell a.u a.behind) a.at _ _ (omega (arith, c.requires, cell_short a.v space, cell_short a.u a.behind))
    c.put_cell-a.ensures.1 c.put_cell.ensures.1 c.put_cell-a.ensures.0 c.put_cell.ensures.0
