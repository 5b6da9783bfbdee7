-- `list::chosen_at` meets its contract. The loop's invariant: the messages left, after the one at the position so far, give what the whole list gives.
use Rattle.std.proofs.Common.{◌≡◌, ◌-◌, ◌≤◌, drop}
use Rattle.parts.specs.Messages.{all, used, best, best_of, standing}
use Rattle.parts.proofs.Laws.Messages.{height}
use Rattle.parts.proofs.list.chosen_at.Given as goal

abbrev pub invariant-loop-i : goal.invariant-loop-i
invariant-loop-i l = (l.i ≤ l.n) × (l.n ≡ used l.l) × (best l.w l.l ≡ best_of l.w (drop l.i (all l.l)) (standing l.l l.t.at)) × (l.t.priority ≡ height (standing l.l l.t.at))

abbrev pub decreases-loop-i : goal.decreases-loop-i
decreases-loop-i l = l.n - l.i
