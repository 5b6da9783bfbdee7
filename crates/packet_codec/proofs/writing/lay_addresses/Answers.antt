-- `writing::lay_addresses` meets its contract: its writes, side by side, are one.
use mathlib.Core.Path.{refl}
use native.Mathlib.Omega.{arith}
use Rattle.codec.specs.Octets.{octets}
use Rattle.codec.proofs.Laws.Octets.{laid_three}
use Rattle.packet_codec.proofs.writing.lay_addresses.Goals as goal

pub returns : goal.returns
returns c =
    let a = c.args in
    laid_three a.out.now _ _ _ (octets 6 a.master) (octets 6 a.failing) (octets 6 a.named) 4 10 16 refl refl (omega (arith, c.requires)) c.put.ensures c.put-2.ensures c.put-3.ensures
