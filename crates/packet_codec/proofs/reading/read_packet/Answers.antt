-- `reading::read_packet` meets its contract: a number of 0 says that no test holds, any other which one was the first that holds.
use mathlib.Core.Path.{sym, ap, ◌∙◌}
use Rattle.packet_codec.specs.declared.reading.Read.TheVariants.{Refused, Good}
use Rattle.packet_codec.proofs.Laws.Packet.{read_refused, read_good, read_long}
use Rattle.packet_codec.proofs.reading.read_packet.Goals as goal

pub returns-then-number-ne0 : goal.returns-then-number-ne0
returns-then-number-ne0 c = ap Refused c.refusal_in.ensures ∙ sym (read_refused _ _ _ c.refusal_of-number.ensures c.if-number-ne0.true)

pub packet_of-requires : goal.packet_of-requires
packet_of-requires c = read_long _ _ (sym c.refusal_of-number.ensures ∙ c.if-number-ne0.false)

pub returns : goal.returns
returns c = ap Good c.packet_of.ensures ∙ sym (read_good _ _ (sym c.refusal_of-number.ensures ∙ c.if-number-ne0.false))
