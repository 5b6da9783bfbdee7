-- `whole::messages_good` meets its contract. The loop's invariant: what is left gives what the whole gives.
use mathlib.Core.Path.{◌≡◌}
use Prim.Native.Nat.{◌-◌, ◌≤◌}
use lib.ListN.{drop}
use Rattle.parts.specs.Choose.{every}
use Rattle.parts.specs.Messages.{all}
use Rattle.wholeness.specs.Whole.{message_good}
use Rattle.wholeness.proofs.whole.messages_good.Given as goal

abbrev pub invariant-loop-i : goal.invariant-loop-i
invariant-loop-i l = (l.i ≤ l.k) × (every (message_good l.n l.own) (drop l.i (all l.l)) ≡ every (message_good l.n l.own) (all l.l))

abbrev pub decreases-loop-i : goal.decreases-loop-i
decreases-loop-i l = l.k - l.i
