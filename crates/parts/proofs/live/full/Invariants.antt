-- `live::full` meets its contract. The loop's invariant: the first p are in the set, the others are not.
use Rattle.std.proofs.Common.{◌≡◌, ◌-◌, ◌≤◌, true, false, ◌++◌, replicate}
use Rattle.parts.specs.Live.{seats}
use Rattle.parts.proofs.live.full.Given as goal

abbrev pub invariant-loop-p : goal.invariant-loop-p
invariant-loop-p l = (l.m ≡ seats l.n) × (l.p ≤ l.m) × (l.o.on ≡ replicate l.p true ++ replicate (64 - l.p) false)

abbrev pub decreases-loop-p : goal.decreases-loop-p
decreases-loop-p l = l.m - l.p
