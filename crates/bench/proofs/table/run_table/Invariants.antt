-- `table::run_table` meets its contract. The loop's invariant: where the run has come to.
use Rattle.std.proofs.Common.{◌-◌}
use Rattle.bench.proofs.Laws.Stepping.{Runs}
use Rattle.bench.proofs.table.run_table.Given as goal

abbrev pub invariant-loop-table : goal.invariant-loop-table
invariant-loop-table l = Runs l.fn.g l.fn.table l.fn.out l.r l.table l.out

abbrev pub decreases-loop-table : goal.decreases-loop-table
decreases-loop-table l = l.fn.g.most - l.r.k
