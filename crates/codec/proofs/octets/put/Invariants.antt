-- `octets::put` meets its contract. The loop's invariant: the octets from `at + left` on are laid, and `rest` is what is left of the number.
use mathlib.Core.Path.{◌≡◌}
use Prim.Native.Nat.{◌+◌, ◌-◌, ◌/◌, ◌^◌, ◌≤◌}
use lib.ListN.{length}
use Rattle.codec.specs.Octets.{octets, laid}
use Rattle.codec.proofs.octets.put.Given as goal

abbrev pub invariant-loop-left : goal.invariant-loop-left
invariant-loop-left l =
    (l.left ≤ l.width) × (length l.out ≡ length l.initial.out) × (l.out ≡ laid l.initial.out (l.at + l.left) (octets (l.width - l.left) l.value)) × (l.rest ≡ l.value / 256 ^ (l.width - l.left))

abbrev pub decreases-loop-left : goal.decreases-loop-left
decreases-loop-left l = l.left
