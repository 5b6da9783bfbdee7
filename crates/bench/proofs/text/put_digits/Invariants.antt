-- `text::put_digits` meets its contract. The loop's invariant: the digits from `at + left` on are laid, and `rest` is what is left of the number.
use mathlib.Core.Path.{◌≡◌}
use Prim.Native.Nat.{◌+◌, ◌-◌, ◌/◌, ◌^◌, ◌≤◌}
use lib.ListN.{length}
use Rattle.codec.specs.Octets.{laid}
use Rattle.bench.specs.Text.{digits}
use Rattle.bench.proofs.text.put_digits.Given as goal

abbrev pub invariant-loop-left : goal.invariant-loop-left
invariant-loop-left l =
    (l.left ≤ l.k) × (length l.out ≡ length l.initial.out) × (l.out ≡ laid l.initial.out (l.at + l.left) (digits (l.k - l.left) l.v)) × (l.rest ≡ l.v / 10 ^ (l.k - l.left))

abbrev pub decreases-loop-left : goal.decreases-loop-left
decreases-loop-left l = l.left
