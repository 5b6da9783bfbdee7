-- `text::put_marks` meets its contract. The loop's invariant: the positions passed are printed.
use mathlib.Core.Path.{◌≡◌}
use Prim.Native.Nat.{◌-◌, ◌≤◌}
use lib.ListN.{length}
use Rattle.day.proofs.Laws.Lines.{Marked}
use Rattle.day.proofs.text.put_marks.Given as goal

abbrev pub invariant-loop-q : goal.invariant-loop-q
invariant-loop-q l = (l.q ≤ l.m) × (length l.out ≡ length l.initial.out) × Marked l.l l.w l.initial.out l.out l.at l.end l.q

abbrev pub decreases-loop-q : goal.decreases-loop-q
decreases-loop-q l = l.m - l.q
