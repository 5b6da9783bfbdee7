-- `tell_addresses` meets its contract. The loop's invariant: the addresses passed are laid over what is told.
use mathlib.Core.Path.{◌≡◌}
use Prim.Native.Nat.{◌-◌, ◌≤◌}
use lib.ListN.{length, take}
use Rattle.codec.specs.Octets.{laid}
use Rattle.rtep.proofs.tell_addresses.Given as goal

abbrev pub invariant-loop-i : goal.invariant-loop-i
invariant-loop-i l = (l.i ≤ length l.members) × (length l.told ≡ length l.initial.told) × (l.told ≡ laid l.initial.told 2 (take l.i l.members))

abbrev pub decreases-loop-i : goal.decreases-loop-i
decreases-loop-i l = length l.members - l.i
