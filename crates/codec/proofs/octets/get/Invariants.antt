-- `octets::get` meets its contract. The loop's invariant: `value` is the number of the octets passed.
use mathlib.Core.Path.{◌≡◌}
use Prim.Native.Nat.{◌-◌, ◌^◌, ◌<◌, ◌≤◌}
use Rattle.codec.specs.Octets.{number_at}
use Rattle.codec.proofs.octets.get.Given as goal

abbrev pub invariant-loop-i : goal.invariant-loop-i
invariant-loop-i l = (l.i ≤ l.width) × (l.value ≡ number_at l.s l.at l.i) × (l.value < 256 ^ l.i)

abbrev pub decreases-loop-i : goal.decreases-loop-i
decreases-loop-i l = l.width - l.i
