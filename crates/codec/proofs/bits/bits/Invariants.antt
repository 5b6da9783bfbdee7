-- `bits::bits` meets its contract. The loop's invariant: `value` is the number of the bits passed.
use mathlib.Core.Path.{◌≡◌}
use Prim.Native.Nat.{◌-◌, ◌≤◌}
use Rattle.codec.specs.Bits.{bits}
use Rattle.codec.proofs.bits.bits.Given as goal

abbrev pub invariant-loop-i : goal.invariant-loop-i
invariant-loop-i l = (l.i ≤ l.width) × (l.value ≡ bits l.s l.at l.i)

abbrev pub decreases-loop-i : goal.decreases-loop-i
decreases-loop-i l = l.width - l.i
