-- `whole::apart` meets its contract. The loop's invariant: what is left, behind what was passed, gives what the whole gives,
-- and the flags are those of the places that were passed.
use mathlib.Core.Path.{◌≡◌}
use mathlib.Core.Bool.{true}
use mathlib.Core.List.{[]}
use Prim.Native.Nat.{◌-◌, ◌≤◌}
use lib.ListN.{length, take, drop}
use Rattle.parts.specs.Choose.{every}
use Rattle.parts.specs.Messages.{all, Marked}
use Rattle.wholeness.specs.Whole.{apart, placed}
use Rattle.wholeness.proofs.whole.apart.Given as goal

abbrev pub invariant-loop-i : goal.invariant-loop-i
invariant-loop-i l =
    (l.i ≤ l.k) × (apart (take l.i (all l.l)) (drop l.i (all l.l)) ≡ apart [] (all l.l)) × (length l.used ≡ 16) × Marked l.used (take l.i (all l.l)) × (every placed (drop l.i (all l.l)) ≡ true)

abbrev pub decreases-loop-i : goal.decreases-loop-i
decreases-loop-i l = l.k - l.i
