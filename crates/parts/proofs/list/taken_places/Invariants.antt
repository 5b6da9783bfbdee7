-- `list::taken_places` meets its contract. The loop's invariant: the flags are those of the places of the messages passed.
use Rattle.std.proofs.Common.{◌≡◌, ◌-◌, ◌≤◌, length, take}
use Rattle.parts.specs.Messages.{all, used, Marked}
use Rattle.parts.proofs.list.taken_places.Given as goal

abbrev pub invariant-loop-i : goal.invariant-loop-i
invariant-loop-i l = (l.i ≤ l.n) × (l.n ≡ used l.l) × (length l.taken ≡ 256) × Marked l.taken (take l.i (all l.l))

abbrev pub decreases-loop-i : goal.decreases-loop-i
decreases-loop-i l = l.n - l.i
