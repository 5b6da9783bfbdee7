-- `text::put_ends` meets its contract: sender and addressee, one cell behind the other.
use native.Mathlib.Omega.{arith}
use Rattle.bench.specs.Text.{space, cell, ends_text}
use Rattle.bench.proofs.Laws.Laying.{laid_both, cell_short}
use Rattle.bench.proofs.text.put_ends.Goals as goal

pub put_cell-requires : goal.put_cell-requires
put_cell-requires c =
    let a = c.args in
    omega (arith, c.put_cell-a.ensures.1, cell_short a.from space)

pub returns : goal.returns
unfolding ends_text
returns c =
    let a = c.args in
    laid_both a.out.now _ _ (cell a.from space) (cell a.to space) a.at _ _ (omega (arith, c.requires, cell_short a.from space, cell_short a.to space))
    c.put_cell-a.ensures.1 c.put_cell.ensures.1 c.put_cell-a.ensures.0 c.put_cell.ensures.0
