-- `packets::seat` meets its contract: a position is at most the number of members.
use native.Mathlib.Omega.{arith}
use Rattle.driver_buffers.proofs.Laws.Seats.{position_most}
use Rattle.driver_buffers.proofs.packets.seat.Goals as goal

pub overflow_cast-result : goal.overflow_cast-result
overflow_cast-result c = omega (arith, position_most c.args.ring.now c.args.address, c.position.ensures, c.requires)
