-- `octets::clear` meets its contract. The loop's invariant: as many zeros as were passed are laid over the buffer.
use mathlib.Core.Path.{◌≡◌}
use Prim.Native.Nat.{◌-◌, ◌≤◌}
use lib.ListN.{length, take}
use Rattle.codec.specs.Octets.{laid, zeros}
use Rattle.codec.proofs.octets.clear.Given as goal

abbrev pub invariant-loop-i : goal.invariant-loop-i
invariant-loop-i l = (l.i ≤ l.count) × (length l.out ≡ length l.initial.out) × (l.out ≡ laid l.initial.out l.at (take l.i (zeros l.count)))

abbrev pub decreases-loop-i : goal.decreases-loop-i
decreases-loop-i l = l.count - l.i
