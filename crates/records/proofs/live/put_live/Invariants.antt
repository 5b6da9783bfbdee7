-- `live::put_live` meets its contract. The loop's invariant: the seats passed are written.
use mathlib.Core.Path.{◌≡◌}
use Prim.Native.Nat.{◌-◌, ◌≤◌}
use lib.ListN.{length, take}
use Rattle.codec.specs.Octets.{laid}
use Rattle.records.specs.Layout.{live_at}
use Rattle.records.specs.Tables.{joined}
use Rattle.records.specs.Fields.{flag_octets}
use Rattle.records.proofs.live.put_live.Given as goal

abbrev pub invariant-loop-p : goal.invariant-loop-p
invariant-loop-p l = (l.p ≤ 64) × (length l.out ≡ length l.initial.out) × (l.out ≡ laid l.initial.out live_at (joined flag_octets (take l.p l.live.on)))

abbrev pub decreases-loop-p : goal.decreases-loop-p
decreases-loop-p l = 64 - l.p
