-- `live::successor` meets its contract. The loop's invariant: what is left of the search from here gives what the whole gives.
use Rattle.std.proofs.Common.{◌≡◌, ◌-◌, ◌≤◌}
use Rattle.parts.specs.Live.{seek, successor}
use Rattle.parts.proofs.live.successor.Given as goal

abbrev pub invariant-loop-k : goal.invariant-loop-k
invariant-loop-k l = (1 ≤ l.k) × (l.found ≡ l.from) × (successor l.live l.n l.from ≡ seek l.live l.n l.from (l.n - l.k) l.at)

abbrev pub decreases-loop-k : goal.decreases-loop-k
decreases-loop-k l = l.n - l.k
