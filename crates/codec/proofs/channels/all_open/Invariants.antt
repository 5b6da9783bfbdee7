-- `channels::all_open` meets its contract. The loop's invariant: whether all were open so far.
use mathlib.Core.Path.{◌≡◌}
use Prim.Native.Nat.{◌-◌, ◌≤◌}
use Rattle.codec.specs.Ring.{channels_of, all_open}
use Rattle.codec.proofs.channels.all_open.Given as goal

abbrev pub invariant-loop-i : goal.invariant-loop-i
invariant-loop-i l = (l.i ≤ l.n) × (l.open ≡ all_open (channels_of l.file l.i))

abbrev pub decreases-loop-i : goal.decreases-loop-i
decreases-loop-i l = l.n - l.i
