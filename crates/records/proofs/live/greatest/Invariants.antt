-- `live::greatest` meets its contract. The loop's invariant: the greatest so far and what is left give what the whole gives.
use mathlib.Core.Path.{◌≡◌}
use Prim.Native.Nat.{◌+◌, ◌-◌, ◌≤◌, max}
use Rattle.records.specs.Layout.{live_at}
use Rattle.records.specs.Fields.{greatest}
use Rattle.records.proofs.live.greatest.Given as goal

abbrev pub invariant-loop-p : goal.invariant-loop-p
invariant-loop-p l = (l.p ≤ 64) × (max l.most (greatest l.s (live_at + l.p) (64 - l.p)) ≡ greatest l.s live_at 64)

abbrev pub decreases-loop-p : goal.decreases-loop-p
decreases-loop-p l = 64 - l.p
