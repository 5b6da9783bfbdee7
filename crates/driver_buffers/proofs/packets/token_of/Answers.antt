-- `packets::token_of` meets its contract.
use Rattle.driver_buffers.specs.Packets.{frame_of}
use Rattle.driver_buffers.proofs.packets.token_of.Goals as goal

pub returns : goal.returns
unfolding frame_of
returns c = rw (c.seat-master.ensures, c.whom_at-failing.ensures, c.seat-named.ensures)
