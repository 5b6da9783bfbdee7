-- `table::hand` meets its contract. The loop's invariant: the positions passed have been handed the frame, the others not yet.
use Rattle.std.proofs.Common.{◌-◌, ◌≤◌}
use Rattle.bench.specs.Table.{hears}
use Rattle.bench.proofs.Laws.Passing.{Passed}
use Rattle.bench.proofs.table.hand.Given as goal

abbrev pub invariant-loop-p : goal.invariant-loop-p
invariant-loop-p l = (l.p ≤ l.h.m) × Passed l.h.n (hears l.h) l.h.frame l.h.from l.h.to l.fn.table l.table l.reply l.p

abbrev pub decreases-loop-p : goal.decreases-loop-p
decreases-loop-p l = l.h.m - l.p
