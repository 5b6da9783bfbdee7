-- `packets::packet_of` meets its contract: each arm's constructor says which packet it is.
use mathlib.Core.Path.{◌∙◌}
use Rattle.driver_buffers.specs.Packets.{packet_of}
use Rattle.driver_buffers.proofs.packets.packet_of.Goals as goal

pub returns-in-Token : goal.returns-in-Token
unfolding packet_of
returns-in-Token c = c.token.ensures ∙ rw (c.in-Token.is, c.address_of-m.ensures, c.whom_address-w.ensures, c.address_of-n.ensures)

pub returns-in-Transmit : goal.returns-in-Transmit
unfolding packet_of
returns-in-Transmit c = c.transmit.ensures ∙ rw (c.in-Transmit.is, c.address_of-m-in-Transmit.ensures, c.address_of-n-in-Transmit.ensures)

pub returns-in-Information : goal.returns-in-Information
unfolding packet_of
returns-in-Information c = c.information.ensures ∙ rw c.in-Information.is
