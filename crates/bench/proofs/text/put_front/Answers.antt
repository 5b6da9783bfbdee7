-- `text::put_front` meets its contract: the number's cell, then the kind and a space.
use native.Mathlib.Omega.{arith}
use lib.ListN.{length-set}
use Rattle.bench.specs.Text.{space}
use Rattle.bench.proofs.Laws.Laying.{front_laid, cell_short}
use Rattle.bench.proofs.text.put_front.Goals as goal

pub bounds-out-a : goal.bounds-out-a
bounds-out-a c =
    omega (arith, c.put_cell-a.ensures.1, cell_short c.args.number space)

pub overflow_add-out : goal.overflow_add-out
overflow_add-out c =
    omega (arith, c.put_cell-a.ensures.1, cell_short c.args.number space)

pub bounds-out-a-2 : goal.bounds-out-a-2
bounds-out-a-2 c =
    simp length-set (omega (arith, c.put_cell-a.ensures.1, cell_short c.args.number space))

pub overflow_add-result : goal.overflow_add-result
overflow_add-result c =
    omega (arith, c.put_cell-a.ensures.1, cell_short c.args.number space)

pub returns : goal.returns
returns c =
    let a = c.args in
    front_laid a.out.now _ a.at _ a.number c.letter_of-c.result a.kind c.requires c.put_cell-a.ensures.0 c.put_cell-a.ensures.1 c.letter_of-c.ensures
