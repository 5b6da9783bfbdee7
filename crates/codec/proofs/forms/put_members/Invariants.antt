-- `forms::put_members` meets its contract. The loop's invariant: the members so far are laid over the buffer.
use mathlib.Core.Path.{◌≡◌}
use Prim.Native.Nat.{◌-◌, ◌≤◌}
use lib.ListN.{length, take}
use Rattle.codec.specs.Octets.{laid}
use Rattle.codec.specs.Ring.{file_octets, channels_of, members_octets}
use Rattle.codec.proofs.forms.put_members.Given as goal

abbrev pub invariant-loop-i : goal.invariant-loop-i
invariant-loop-i l = (l.i ≤ length l.addresses) × (l.at ≡ file_octets l.asked l.i) × (length l.out ≡ length l.initial.out) × (l.out ≡ laid l.initial.out 2 (members_octets l.asked (take l.i l.addresses) (channels_of l.file l.i)))

abbrev pub decreases-loop-i : goal.decreases-loop-i
decreases-loop-i l = length l.addresses - l.i
