-- `writing::write_information` meets its contract: what looking finds says whether the packet is laid.
use mathlib.Core.Path.{sym, ◌∙◌}
use native.Mathlib.Omega.{arith}
use lib.ListN.{length}
use Rattle.packet_codec.specs.declared.packet.Packet.TheVariants.{Information}
use Rattle.packet_codec.specs.Packet.{packet_octets}
use Rattle.packet_codec.proofs.Laws.Packet.{fit_length}
use Rattle.packet_codec.proofs.Laws.Written.{write_looked, written_not, written}
use Rattle.packet_codec.proofs.writing.write_information.Goals as goal

pub lay_information-requires : goal.lay_information-requires
lay_information-requires c =
    let a = c.args in
    let found = write_looked a.ring.now (Information a.h) (length a.information.now) _ _ c.look_information.ensures c.then_length.ensures in
    omega (arith, c.requires, fit_length a.ring.now (Information a.h) (length a.information.now) (sym found ∙ c.in-Sound.is))

pub returns-in-Bad : goal.returns-in-Bad
returns-in-Bad c =
    let a = c.args in
    let found = write_looked a.ring.now (Information a.h) (length a.information.now) _ _ c.look_information.ensures c.then_length.ensures in
    written_not a.ring.now (Information a.h) a.information.now a.out.now c.requires _ found _ c.in-Bad.is

pub returns-in-Sound : goal.returns-in-Sound
unfolding packet_octets
returns-in-Sound c =
    let a = c.args in
    let found = write_looked a.ring.now (Information a.h) (length a.information.now) _ _ c.look_information.ensures c.then_length.ensures in
    written a.ring.now (Information a.h) a.information.now a.out.now c.requires _ found _ c.in-Sound.is c.lay_information.ensures
