-- `table::run_table` meets its contract. The loop's invariant: where the run has come to.
use Rattle.std.proofs.Common.{◌-◌}
use Rattle.replay.specs.Table.{way_of}
use Rattle.replay.proofs.Laws.Running.{Under}
use Rattle.replay.proofs.table.run_table.Given as goal

abbrev pub invariant-loop-next : goal.invariant-loop-next
invariant-loop-next l = Under (way_of l.fn.g) l.fn.table l.capture l.fn.out (way_of l.r) l.table l.out

abbrev pub decreases-loop-next : goal.decreases-loop-next
decreases-loop-next l = l.fn.g.most - l.r.k
