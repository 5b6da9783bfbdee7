-- `writing::write_packet` meets its contract: no room, or what writing a packet of its kind gives.
use Rattle.packet_codec.proofs.Laws.Written.{no_room}
use Rattle.packet_codec.proofs.writing.write_packet.Goals as goal

pub returns-then-out-lt-LONGEST : goal.returns-then-out-lt-LONGEST
returns-then-out-lt-LONGEST c =
    let a = c.args in
    no_room a.ring.now a.p a.information.now a.out.now c.if-out-lt-LONGEST.true

pub returns-in-Token : goal.returns-in-Token
returns-in-Token c = rw c.in-Token.is c.write_token.ensures

pub returns-in-Transmit : goal.returns-in-Transmit
returns-in-Transmit c = rw c.in-Transmit.is c.write_transmit.ensures

pub returns-in-Information : goal.returns-in-Information
returns-in-Information c = rw c.in-Information.is c.write_information.ensures
