-- `packets::whom_at` meets its contract.
use borrow.Author.Tests.{eq-eqb, ne_eqb}
use Rattle.parts.specs.Choose.{pick}
use Rattle.driver_buffers.specs.Packets.{whom_at}
use Rattle.driver_buffers.proofs.packets.whom_at.Goals as goal

pub returns-then-address-eq0 : goal.returns-then-address-eq0
unfolding whom_at pick
returns-then-address-eq0 c = simp (eq-eqb _ _ c.if-address-eq0.true)

pub returns : goal.returns
unfolding whom_at pick
returns c = simp (ne_eqb _ _ c.if-address-eq0.false, c.seat.ensures)
