-- `text::put_row` meets its contract: its three parts, side by side, are one.
use native.Mathlib.Omega.{arith}
use Rattle.bench.proofs.Laws.Laying.{front_short, ends_short, row_laid}
use Rattle.bench.proofs.text.put_row.Goals as goal

pub put_ends-b-requires : goal.put_ends-b-requires
put_ends-b-requires c =
    let w = c.args.row in
    omega (arith, c.put_front-a.ensures.1, front_short w.number w.kind)

pub put_back-requires : goal.put_back-requires
put_back-requires c =
    let w = c.args.row in
    omega (arith, c.put_front-a.ensures.1, front_short w.number w.kind, c.put_ends-b.ensures.1, ends_short w.from w.to)

pub returns : goal.returns
returns c =
    let a = c.args in
    row_laid a.out.now _ _ _ a.at _ _ _ a.row c.requires c.put_front-a.ensures.0 c.put_front-a.ensures.1 c.put_ends-b.ensures.0 c.put_ends-b.ensures.1 c.put_back.ensures.0 c.put_back.ensures.1
