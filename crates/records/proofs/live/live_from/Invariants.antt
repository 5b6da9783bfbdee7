-- `live::live_from` meets its contract. The loop's invariant: the octets passed are read, and the rest is as it was.
use mathlib.Core.Path.{◌≡◌}
use mathlib.Core.List.{◌++◌}
use Prim.Native.Nat.{◌-◌, ◌≤◌}
use lib.ListN.{drop}
use Rattle.records.specs.Tables.{tab}
use Rattle.records.specs.Fields.{flag_at}
use Rattle.records.proofs.live.live_from.Given as goal

abbrev pub invariant-loop-p : goal.invariant-loop-p
invariant-loop-p l = (l.p ≤ 64) × (l.o.on ≡ tab (flag_at l.s) l.p ++ drop l.p l.initial.o.on)

abbrev pub decreases-loop-p : goal.decreases-loop-p
decreases-loop-p l = 64 - l.p
