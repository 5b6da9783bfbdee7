-- `text::put_back` meets its contract: priority and octets, one cell behind the other.
use native.Mathlib.Omega.{arith}
use Rattle.bench.specs.Text.{space, line_feed, cell, back_text}
use Rattle.bench.proofs.Laws.Laying.{laid_both, cell_short}
use Rattle.bench.proofs.text.put_back.Goals as goal

pub put_cell-requires : goal.put_cell-requires
put_cell-requires c =
    let a = c.args in
    omega (arith, c.put_cell-a.ensures.1, cell_short a.priority space)

pub returns : goal.returns
unfolding back_text
returns c =
    let a = c.args in
    laid_both a.out.now _ _ (cell a.priority space) (cell a.octets line_feed) a.at _ _ (omega (arith, c.requires, cell_short a.priority space, cell_short a.octets line_feed))
    c.put_cell-a.ensures.1 c.put_cell.ensures.1 c.put_cell-a.ensures.0 c.put_cell.ensures.0
