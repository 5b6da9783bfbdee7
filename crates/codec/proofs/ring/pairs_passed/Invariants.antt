-- `ring::pairs_passed` meets its contract. The loop's invariant: the position is as many as were passed, and then that in what is left.
use mathlib.Core.Path.{◌≡◌}
use Prim.Native.Nat.{◌+◌, ◌-◌, ◌≤◌}
use lib.ListN.{length, drop}
use Rattle.codec.specs.Ring.{position}
use Rattle.codec.proofs.ring.pairs_passed.Given as goal

abbrev pub invariant-loop-i : goal.invariant-loop-i
invariant-loop-i l = (l.i ≤ length l.members) × (position l.members l.address ≡ l.i + position (drop l.i l.members) l.address)

abbrev pub decreases-loop-i : goal.decreases-loop-i
decreases-loop-i l = length l.members - l.i
