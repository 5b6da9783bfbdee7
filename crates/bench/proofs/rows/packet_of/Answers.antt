-- `rows::packet_of` meets its contract: each frame's packet, with addresses for positions.
use mathlib.Core.Path.{◌∙◌}
use Rattle.bench.proofs.rows.packet_of.Goals as goal

pub returns-in-Token : goal.returns-in-Token
returns-in-Token c = c.token.ensures ∙ rw (c.in-Token.is, c.address_of-d.ensures, c.address_or_none-x.ensures, c.address_of-m.ensures)

pub returns-in-Transmit : goal.returns-in-Transmit
returns-in-Transmit c = c.transmit.ensures ∙ rw (c.in-Transmit.is, c.address_of-d-in-Transmit.ensures, c.address_of-m-in-Transmit.ensures)

pub returns-in-Information : goal.returns-in-Information
returns-in-Information c = c.information.ensures ∙ rw c.in-Information.is
