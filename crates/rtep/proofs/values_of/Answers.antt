-- `values_of` meets its contract: the identifier says which packet the octets make.
use mathlib.Core.Path.{sym, ap, ◌∙◌}
use Rattle.packet_codec.proofs.Laws.Packet.{packet_token, packet_transmit, packet_information}
use Rattle.rtep.specs.Told.{values_of, short_values, head_values}
use Rattle.rtep.proofs.values_of.Goals as goal

pub returns-then-identifier-eq1 : goal.returns-then-identifier-eq1
unfolding values_of
returns-then-identifier-eq1 c = c.short_values.ensures ∙ ap (short_values 1) c.short_of.ensures ∙ sym (ap values_of (packet_token _ c.if-identifier-eq1.true))

pub returns-then-identifier-eq2 : goal.returns-then-identifier-eq2
unfolding values_of
returns-then-identifier-eq2 c = c.short_values-then-identifier-eq2.ensures ∙ ap (short_values 2) c.short_of-then-identifier-eq2.ensures ∙ sym (ap values_of (packet_transmit _ c.if-identifier-eq1.false c.if-identifier-eq2.true))

pub returns : goal.returns
unfolding values_of
returns c = c.head_values.ensures ∙ ap head_values c.head_of.ensures ∙ sym (ap values_of (packet_information _ c.if-identifier-eq1.false c.if-identifier-eq2.false))
