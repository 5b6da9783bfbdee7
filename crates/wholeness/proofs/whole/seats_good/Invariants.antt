-- `whole::seats_good` meets its contract. The loop's invariant: what is left gives what the whole gives.
use mathlib.Core.Path.{◌≡◌}
use Prim.Native.Nat.{◌-◌, ◌≤◌}
use lib.ListN.{drop}
use Rattle.wholeness.specs.Whole.{seats_good}
use Rattle.wholeness.proofs.whole.seats_good.Given as goal

abbrev pub invariant-loop-p : goal.invariant-loop-p
invariant-loop-p l = (l.p ≤ 64) × (seats_good l.state l.n l.own l.p (drop l.p l.live.on) ≡ seats_good l.state l.n l.own 0 l.live.on)

abbrev pub decreases-loop-p : goal.decreases-loop-p
decreases-loop-p l = 64 - l.p
