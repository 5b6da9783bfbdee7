-- `text::put_cell` meets its contract: the digits, then what stands behind them.
use native.Mathlib.Omega.{arith}
use Rattle.bench.proofs.Laws.Laying.{width_short, cell_laid}
use Rattle.bench.proofs.text.put_cell.Goals as goal

pub put_digits-requires : goal.put_digits-requires
put_digits-requires c =
    omega (arith, c.width_of-k.ensures, width_short c.args.v)

pub overflow_add-end : goal.overflow_add-end
overflow_add-end c =
    omega (arith, c.width_of-k.ensures, width_short c.args.v)

pub bounds-out-end : goal.bounds-out-end
bounds-out-end c =
    omega (arith, c.width_of-k.ensures, width_short c.args.v)

pub overflow_add-result : goal.overflow_add-result
overflow_add-result c =
    omega (arith, c.width_of-k.ensures, width_short c.args.v)

pub returns : goal.returns
returns c =
    let a = c.args in
    cell_laid a.out.now _ a.at c.width_of-k.result a.v a.behind _ c.requires c.width_of-k.ensures c.put_digits.ensures (omega arith)
