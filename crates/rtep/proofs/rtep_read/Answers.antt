-- `rtep_read` meets its contract: its number says whether there is a packet, and then the packet is the one that the octets make.
use mathlib.Core.Path.{◌≡◌, sym, ap, ◌∙◌}
use Rattle.packet_codec.specs.declared.reading.Read.{Read}
use Rattle.packet_codec.specs.Packet.{read_packet, read_number}
use Rattle.packet_codec.proofs.Laws.Packet.{read_refused, read_good, read_long}
use Rattle.rtep.specs.Told.{read_told}
use Rattle.rtep.proofs.rtep_read.Goals as goal

pub returns-then-number-ne0 : goal.returns-then-number-ne0
returns-then-number-ne0 c =
    let e = c.refusal_of-number.ensures in
    record {
      answer = e;
      told_is = sym (ap (λ (r : Read). read_told r c.args.told.now) (read_refused _ _ _ e c.if-number-ne0.true));
    }

pub values_of-requires : goal.values_of-requires
values_of-requires c = read_long _ _ (sym c.refusal_of-number.ensures ∙ c.if-number-ne0.false)

pub returns : goal.returns
returns c =
    let z : 0 ≡ read_number (read_packet c.args.ring.now c.args.packet.now) =
    sym c.if-number-ne0.false ∙ c.refusal_of-number.ensures in
    record {
      answer = z;
      told_is = c.values_of.ensures ∙ sym (ap (λ (r : Read). read_told r c.args.told.now) (read_good _ _ (sym z)));
    }
