-- `reading::look_long` meets its contract: the octets make information; its fields' tests, and then the rest's.
use mathlib.Core.Path.{sym, ap, ◌∙◌}
use native.Mathlib.Omega.{arith}
use Rattle.codec.specs.Order.{first_of}
use Rattle.packet_codec.specs.Packet.{read_tests}
use Rattle.packet_codec.specs.declared.fields.Looked.TheVariants.{Sound}
use Rattle.packet_codec.specs.declared.packet.Packet.{Packet}
use Rattle.packet_codec.specs.declared.packet.Packet.TheVariants.{Information}
use Rattle.packet_codec.proofs.Laws.Looked.{read_looked}
use Rattle.packet_codec.proofs.Laws.Packet.{packet_information}
use Rattle.packet_codec.proofs.reading.look_long.Goals as goal

pub returns : goal.returns
returns c =
    let a = c.args in
    read_looked a.ring.now a.s.now (Information c.head_of-p.result) _ _ c.look_information.ensures c.then_rest.ensures
    ∙ ap (λ (q : Packet). first_of Sound (read_tests a.ring.now a.s.now q)) (ap Information c.head_of-p.ensures ∙ sym (packet_information _ (λ e. absurd (omega arith)) (λ e. absurd (omega arith))))
