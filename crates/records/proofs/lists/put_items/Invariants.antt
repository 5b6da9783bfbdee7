-- `lists::put_items` meets its contract. The loop's invariant: the messages passed are written.
use mathlib.Core.Path.{◌≡◌}
use Prim.Native.Nat.{◌-◌, ◌≤◌}
use lib.ListN.{length, take}
use Rattle.codec.specs.Octets.{laid}
use Rattle.records.specs.Tables.{joined}
use Rattle.records.specs.Fields.{message_octets}
use Rattle.records.proofs.lists.put_items.Given as goal

abbrev pub invariant-loop-i : goal.invariant-loop-i
invariant-loop-i l = (l.i ≤ 16) × (length l.out ≡ length l.initial.out) × (l.out ≡ laid l.initial.out l.at (joined message_octets (take l.i l.items)))

abbrev pub decreases-loop-i : goal.decreases-loop-i
decreases-loop-i l = 16 - l.i
