-- `ring::addresses_by` meets its contract. The loop's invariant: the addresses read so far are laid over the array.
use mathlib.Core.Path.{◌≡◌}
use Prim.Native.Nat.{◌-◌, ◌≤◌}
use lib.ListN.{length}
use Rattle.codec.specs.Octets.{laid}
use Rattle.codec.specs.Ring.{member_at, addresses_of}
use Rattle.codec.proofs.ring.addresses_by.Given as goal

abbrev pub invariant-loop-i : goal.invariant-loop-i
invariant-loop-i l = (l.i ≤ l.n) × (l.at ≡ member_at l.file l.i) × (length l.addresses ≡ length l.initial.addresses) × (l.addresses ≡ laid l.initial.addresses 0 (addresses_of l.file l.i))

abbrev pub decreases-loop-i : goal.decreases-loop-i
decreases-loop-i l = l.n - l.i
