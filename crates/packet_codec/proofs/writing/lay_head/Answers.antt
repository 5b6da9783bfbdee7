-- `writing::lay_head` meets its contract: its writes, side by side, are one.
use mathlib.Core.Path.{refl}
use native.Mathlib.Omega.{arith}
use Rattle.codec.specs.Octets.{octets}
use Rattle.packet_codec.specs.Packet.{start_octets}
use Rattle.codec.proofs.Laws.Octets.{laid_three}
use Rattle.packet_codec.proofs.writing.lay_head.Goals as goal

pub returns : goal.returns
returns c =
    let a = c.args in
    let h = a.h in
    laid_three a.out.now _ _ _ (start_octets 3 h.priority h.number) (octets 2 h.channel) (octets 2 h.length) 0 4 6 refl refl (omega (arith, c.requires)) c.lay_start.ensures c.put.ensures c.put-2.ensures
