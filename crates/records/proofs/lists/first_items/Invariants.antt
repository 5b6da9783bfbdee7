-- `lists::first_items` meets its contract. The loop's invariant: the messages passed are read, and the rest are as they were.
use mathlib.Core.Path.{◌≡◌}
use mathlib.Core.List.{◌++◌}
use Prim.Native.Nat.{◌-◌, ◌≤◌}
use lib.ListN.{drop}
use Rattle.records.specs.Tables.{tab}
use Rattle.records.specs.Fields.{item_at}
use Rattle.records.proofs.lists.first_items.Given as goal

abbrev pub invariant-loop-i : goal.invariant-loop-i
invariant-loop-i l = (l.i ≤ l.k) × (l.items ≡ tab (item_at l.s l.at) l.i ++ drop l.i l.initial.items)

abbrev pub decreases-loop-i : goal.decreases-loop-i
decreases-loop-i l = l.k - l.i
