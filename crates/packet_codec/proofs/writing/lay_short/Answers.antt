-- `writing::lay_short` meets its contract: its writes, side by side, are one.
use mathlib.Core.Path.{refl}
use native.Mathlib.Omega.{arith}
use Rattle.codec.specs.Octets.{zeros}
use Rattle.packet_codec.specs.Packet.{start_octets, addresses_octets}
use Rattle.codec.proofs.Laws.Octets.{laid_three}
use Rattle.packet_codec.proofs.writing.lay_short.Goals as goal

pub returns : goal.returns
returns c =
    let a = c.args in
    let p = a.p in
    laid_three a.out.now _ _ _ (start_octets a.identifier p.priority p.number) (addresses_octets p.master p.failing p.named) (zeros 24) 0 4 22 refl refl (omega (arith, c.requires)) c.lay_start.ensures c.lay_addresses.ensures c.clear.ensures
