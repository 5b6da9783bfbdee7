-- `Packet::information_in` meets its contract.
use native.Mathlib.Nat.{add-sub_cancel_left}
use borrow.Author.Tests.{le-leb, lt-leb}
use Rattle.packet_codec.specs.Packet.{information_in}
use Rattle.packet_codec.proofs.packet.Packet.information_in.Goals as goal

pub returns-then-end-s : goal.returns-then-end-s
unfolding information_in
returns-then-end-s c = simp (add-sub_cancel_left 8 c.args.n, le-leb _ _ c.if-end-s.true)

pub returns-else-end-s : goal.returns-else-end-s
unfolding information_in
returns-else-end-s c = simp (lt-leb _ _ c.if-end-s.false)
