-- `octets::copy_one_by_one` meets its contract. The loop's invariant: the octets passed are laid over the buffer.
use mathlib.Core.Path.{◌≡◌}
use Prim.Native.Nat.{◌-◌, ◌≤◌}
use lib.ListN.{length, take}
use Rattle.codec.specs.Octets.{laid}
use Rattle.codec.proofs.octets.copy_one_by_one.Given as goal

abbrev pub invariant-loop-i : goal.invariant-loop-i
invariant-loop-i l = (l.i ≤ length l.src) × (length l.out ≡ length l.initial.out) × (l.out ≡ laid l.initial.out l.at (take l.i l.src))

abbrev pub decreases-loop-i : goal.decreases-loop-i
decreases-loop-i l = length l.src - l.i
