-- `list::lowest_free` meets its contract. The loop's invariant: for any messages that the flags are of, the places left from here
-- give what all sixteen give.
use Rattle.std.proofs.Common.{◌≡◌, ◌-◌, ◌≤◌, List}
use Rattle.parts.specs.declared.list.Message.{Message}
use Rattle.parts.specs.Messages.{Marked, free_from, lowest_free}
use Rattle.parts.proofs.list.lowest_free.Given as goal

abbrev pub invariant-loop-p : goal.invariant-loop-p
invariant-loop-p l = (l.p ≤ 16) × ((ms : List Message) → Marked l.f.taken ms → lowest_free ms ≡ free_from (16 - l.p) l.p ms)

abbrev pub decreases-loop-p : goal.decreases-loop-p
decreases-loop-p l = 16 - l.p
