-- `writing::write_token` meets its contract: what looking finds says whether the packet is laid.
use lib.ListN.{length}
use Rattle.packet_codec.specs.declared.packet.Packet.TheVariants.{Token}
use Rattle.packet_codec.specs.Packet.{packet_octets}
use Rattle.packet_codec.proofs.Laws.Written.{write_looked, written_not, written}
use Rattle.packet_codec.proofs.writing.write_token.Goals as goal

pub returns-in-Bad : goal.returns-in-Bad
returns-in-Bad c =
    let a = c.args in
    let found = write_looked a.ring.now (Token a.q) (length a.information.now) _ _ c.look_token.ensures c.then_length.ensures in
    written_not a.ring.now (Token a.q) a.information.now a.out.now c.requires _ found _ c.in-Bad.is

pub returns-in-Sound : goal.returns-in-Sound
unfolding packet_octets
returns-in-Sound c =
    let a = c.args in
    let found = write_looked a.ring.now (Token a.q) (length a.information.now) _ _ c.look_token.ensures c.then_length.ensures in
    written a.ring.now (Token a.q) a.information.now a.out.now c.requires _ found _ c.in-Sound.is c.lay_short.ensures
