-- `wire::rest` meets its contract. The loop's invariant: the frames passed stand one place down.
use mathlib.Core.Path.{◌≡◌}
use Prim.Native.Nat.{◌-◌, ◌≤◌}
use lib.ListN.{length}
use Rattle.day.specs.Wire.{flying_of}
use Rattle.day.proofs.Laws.Wire.{Shifted}
use Rattle.day.proofs.wire.rest.Given as goal

abbrev pub invariant-loop-i : goal.invariant-loop-i
invariant-loop-i l =
    (1 ≤ l.i) × (l.i - 1 ≤ l.n - 1) × (l.n ≡ length (flying_of l.w)) × (length l.items ≡ 64) × Shifted (flying_of l.w) l.items l.i

abbrev pub decreases-loop-i : goal.decreases-loop-i
decreases-loop-i l = l.n - l.i
