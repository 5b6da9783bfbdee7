-- `octets::zeros_passed` meets its contract. The loop's invariant: what is left from here gives what the whole gives.
use mathlib.Core.Path.{◌≡◌}
use Prim.Native.Nat.{◌-◌, ◌≤◌}
use Rattle.codec.specs.Octets.{first_nonzero}
use Rattle.codec.proofs.octets.zeros_passed.Given as goal

abbrev pub invariant-loop-i : goal.invariant-loop-i
invariant-loop-i l = (l.i ≤ l.end) × (first_nonzero l.s l.from (l.end - l.from) ≡ first_nonzero l.s l.i (l.end - l.i))

abbrev pub decreases-loop-i : goal.decreases-loop-i
decreases-loop-i l = l.end - l.i
