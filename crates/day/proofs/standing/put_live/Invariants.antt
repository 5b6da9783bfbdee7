-- `standing::put_live` meets its contract. The loop's invariant: the octets from `left` on are laid.
use mathlib.Core.Path.{◌≡◌}
use Prim.Native.Nat.{◌+◌, ◌≤◌}
use lib.ListN.{length, drop}
use Rattle.codec.specs.Octets.{laid}
use Rattle.day.specs.Printed.{live_text}
use Rattle.day.proofs.standing.put_live.Given as goal

abbrev pub invariant-loop-left : goal.invariant-loop-left
invariant-loop-left l = (l.left ≤ l.n + 1) × (length l.out ≡ length l.initial.out) × (l.out ≡ laid l.initial.out (l.at + l.left) (drop l.left (live_text l.live l.n 0)))

abbrev pub decreases-loop-left : goal.decreases-loop-left
decreases-loop-left l = l.left
