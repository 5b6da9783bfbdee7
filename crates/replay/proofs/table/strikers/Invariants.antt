-- `table::strikers` meets its contract. The loop's invariant: the strikers among the positions passed are marked.
use Rattle.std.proofs.Common.{◌-◌, ◌≡◌, ◌≤◌}
use Rattle.day.specs.Strikes.{strikers_of}
use Rattle.replay.proofs.table.strikers.Given as goal

abbrev pub invariant-loop-p : goal.invariant-loop-p
invariant-loop-p l = (l.p ≤ l.m) × (l.l ≡ strikers_of l.fn.none l.p l.table l.h)

abbrev pub decreases-loop-p : goal.decreases-loop-p
decreases-loop-p l = l.m - l.p
