-- `packets::frame_of` meets its contract: each arm's constructor says which frame it is.
use Rattle.driver_buffers.specs.Packets.{frame_of}
use Rattle.driver_buffers.proofs.packets.frame_of.Goals as goal

pub returns-in-Token : goal.returns-in-Token
unfolding frame_of
returns-in-Token c = rw c.in-Token.is c.token_of.ensures

pub returns-in-Transmit : goal.returns-in-Transmit
unfolding frame_of
returns-in-Transmit c = rw c.in-Transmit.is c.transmit_of.ensures

pub returns-in-Information : goal.returns-in-Information
unfolding frame_of
returns-in-Information c = rw c.in-Information.is c.information_frame.ensures
