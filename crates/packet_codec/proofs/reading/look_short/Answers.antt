-- `reading::look_short` meets its contract: the identifier says which packet the octets make; its fields' tests, and then the rest's.
use mathlib.Core.Path.{◌≡◌, sym, ap, ◌∙◌}
use native.Mathlib.Omega.{arith}
use Rattle.codec.specs.Order.{first_of}
use Rattle.packet_codec.specs.Packet.{identifier, read_tests}
use Rattle.packet_codec.specs.declared.fields.Looked.TheVariants.{Sound}
use Rattle.packet_codec.specs.declared.packet.Packet.{Packet}
use Rattle.packet_codec.specs.declared.packet.Packet.TheVariants.{Token, Transmit}
use Rattle.packet_codec.proofs.Laws.Looked.{read_looked}
use Rattle.packet_codec.proofs.Laws.Packet.{packet_token, packet_transmit}
use Rattle.packet_codec.proofs.reading.look_short.Goals as goal
use Rattle.packet_codec.proofs.reading.look_short.Goals.{Else-identifier-eq1}

-- of two identifiers it is the other
short : (c : Else-identifier-eq1) → identifier c.args.s.now ≡ 2
short c = omega arith

pub returns-then-identifier-eq1 : goal.returns-then-identifier-eq1
returns-then-identifier-eq1 c =
    let a = c.args in
    read_looked a.ring.now a.s.now (Token c.short_of-p.result) _ _ c.look_token.ensures c.then_rest.ensures
    ∙ ap (λ (q : Packet). first_of Sound (read_tests a.ring.now a.s.now q)) (ap Token c.short_of-p.ensures ∙ sym (packet_token _ c.if-identifier-eq1.true))

pub returns : goal.returns
returns c =
    let a = c.args in
    read_looked a.ring.now a.s.now (Transmit c.short_of-p.result) _ _ c.look_transmit.ensures c.then_rest-2.ensures
    ∙ ap (λ (q : Packet). first_of Sound (read_tests a.ring.now a.s.now q)) (ap Transmit c.short_of-p.ensures ∙ sym (packet_transmit _ c.if-identifier-eq1.false (short (goal.at.returns c).Else-identifier-eq1)))
