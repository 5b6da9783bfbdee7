-- `telling::tell_gone` meets its contract. The loop's invariant: the messages passed are told.
use mathlib.Core.Path.{◌≡◌}
use Prim.Native.Nat.{◌-◌, ◌≤◌}
use lib.ListN.{length, take}
use Rattle.codec.specs.Octets.{laid}
use Rattle.parts.specs.Messages.{all, used}
use Rattle.records.specs.Tables.{joined}
use Rattle.driver_buffers.specs.Telling.{message_told}
use Rattle.driver_buffers.proofs.telling.tell_gone.Given as goal

abbrev pub invariant-loop-i : goal.invariant-loop-i
invariant-loop-i l = (l.n ≡ used l.gone) × (l.i ≤ l.n) × (length l.told ≡ length l.initial.told) × (l.told ≡ laid l.initial.told 4 (joined (message_told l.ring) (take l.i (all l.gone))))

abbrev pub decreases-loop-i : goal.decreases-loop-i
decreases-loop-i l = l.n - l.i
