-- `text::put_frames` meets its contract. The loop's invariant: the frames passed are printed.
use mathlib.Core.Path.{◌≡◌}
use Prim.Native.Nat.{◌-◌, ◌≤◌}
use lib.ListN.{length}
use Rattle.day.specs.Wire.{flying_of}
use Rattle.day.proofs.Laws.Lined.{Lined}
use Rattle.day.proofs.text.put_frames.Given as goal

abbrev pub invariant-loop-i : goal.invariant-loop-i
invariant-loop-i l = (l.i ≤ l.n) × (l.n ≡ length (flying_of l.w)) × (length l.out ≡ length l.initial.out) × Lined (flying_of l.w) l.initial.out l.out l.at l.end l.i

abbrev pub decreases-loop-i : goal.decreases-loop-i
decreases-loop-i l = l.n - l.i
