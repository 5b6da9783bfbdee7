-- `live::put_ones` meets its contract. The loop's invariant: as many ones as were passed are laid over the live set.
use mathlib.Core.Path.{◌≡◌}
use Prim.Native.Nat.{◌-◌, ◌≤◌}
use lib.ListN.{length, take}
use Rattle.codec.specs.Octets.{laid}
use Rattle.records.specs.Layout.{live_at}
use Rattle.records.specs.Fields.{ones}
use Rattle.records.proofs.live.put_ones.Given as goal

abbrev pub invariant-loop-p : goal.invariant-loop-p
invariant-loop-p l = (l.p ≤ l.n) × (length l.out ≡ length l.initial.out) × (l.out ≡ laid l.initial.out live_at (take l.p (ones l.n)))

abbrev pub decreases-loop-p : goal.decreases-loop-p
decreases-loop-p l = l.n - l.p
