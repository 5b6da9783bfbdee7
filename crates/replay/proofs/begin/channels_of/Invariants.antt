-- `begin::channels_of` meets its contract. The loop's invariant: the open channels so far are laid over zeros.
use mathlib.Core.Path.{◌≡◌}
use Prim.Native.Nat.{◌-◌, ◌≤◌}
use Rattle.codec.specs.Octets.{laid, zeros}
use Rattle.codec.specs.Ring.{channels_of}
use Rattle.replay.proofs.begin.channels_of.Given as goal

abbrev pub invariant-loop-p : goal.invariant-loop-p
invariant-loop-p l = (l.p ≤ l.n) × (l.channels ≡ laid (zeros 64) 0 (channels_of l.file l.p))

abbrev pub decreases-loop-p : goal.decreases-loop-p
decreases-loop-p l = l.n - l.p
