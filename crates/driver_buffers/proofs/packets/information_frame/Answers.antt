-- `packets::information_frame` meets its contract.
use mathlib.Core.Path.{refl}
use Rattle.driver_buffers.specs.Packets.{frame_of}
use Rattle.driver_buffers.proofs.packets.information_frame.Goals as goal

pub returns : goal.returns
unfolding frame_of
returns c = refl
