-- `table::print` meets its contract: one call, and its answer in the new record.
use mathlib.Core.Path.{ap}
use Prim.Native.Nat.{ℕ, ◌+◌}
use Rattle.bench.proofs.Laws.Stepping.{wire_of, going_of}
use Rattle.bench.proofs.table.print.Goals as goal

pub returns : goal.returns
returns c =
    let a = c.args in
    let p = c.put_wire-used in
    (ap (λ (u : ℕ). going_of a.g.n (wire_of a.to a.reply) a.g.most (a.g.k + 1) u) p.ensures.1, p.ensures.0)
