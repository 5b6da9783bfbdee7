-- `writing::lay_information` meets its contract: its writes, side by side, are one.
use mathlib.Core.Path.{refl, ap, ◌∙◌}
use Prim.Native.Nat.{ℕ, ◌+◌, ◌-◌}
use native.Mathlib.Omega.{arith}
use lib.ListN.{length}
use Rattle.codec.specs.Octets.{zeros, laid}
use Rattle.packet_codec.specs.Packet.{head_octets}
use Rattle.codec.proofs.Laws.Octets.{laid_three}
use Rattle.packet_codec.proofs.writing.lay_information.Goals as goal

pub returns : goal.returns
returns c =
    let a = c.args in
    let n = length a.information.now in
    laid_three a.out.now _ _ _ (head_octets a.h) a.information.now (zeros (46 - (8 + n))) 0 8 (8 + n) refl refl (omega (arith, c.requires)) c.lay_head.ensures c.copy.ensures
    (c.clear.ensures ∙ ap (λ (k : ℕ). laid c.copy.new.out (8 + n) (zeros k)) c.pad.ensures)
