-- `ring::addresses_refusal` meets its contract. The loop's invariant: none so far is refused, and what is left gives what the whole gives.
use mathlib.Core.Path.{◌≡◌}
use Prim.Native.Nat.{◌-◌, ◌≤◌}
use lib.ListN.{length, take, drop}
use Rattle.codec.specs.Order.{first_of}
use Rattle.codec.specs.Ring.{addresses_tests, addresses_refusal}
use Rattle.codec.proofs.ring.addresses_refusal.Given as goal

abbrev pub invariant-loop-i : goal.invariant-loop-i
invariant-loop-i l =
    (l.i ≤ length l.members) × (l.number ≡ 0) × (addresses_refusal l.members ≡ first_of 0 (addresses_tests (take l.i l.members) (drop l.i l.members)))

abbrev pub decreases-loop-i : goal.decreases-loop-i
decreases-loop-i l = length l.members - l.i
