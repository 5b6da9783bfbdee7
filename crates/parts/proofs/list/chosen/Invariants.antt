-- `list::chosen` meets its contract. The loop's invariant: what is stored is the part of the messages passed.
use Rattle.std.proofs.Common.{◌≡◌, ◌-◌, ◌≤◌, take}
use Rattle.parts.specs.Messages.{all, used, pack, only, among}
use Rattle.parts.proofs.Laws.Messages.{stored}
use Rattle.parts.proofs.list.chosen.Given as goal

abbrev pub invariant-loop-i : goal.invariant-loop-i
invariant-loop-i l = (l.i ≤ l.n) × (l.n ≡ used l.l) × (l.k ≤ l.i) × (stored l.items l.k ≡ pack (only (among l.w l.fitting) (take l.i (all l.l))))

abbrev pub decreases-loop-i : goal.decreases-loop-i
decreases-loop-i l = l.n - l.i
