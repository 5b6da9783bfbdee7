-- `reading::packet_of` meets its contract.
use mathlib.Core.Path.{ap}
use borrow.Author.Tests.{eq-eqb, ne_eqb}
use Rattle.packet_codec.specs.Packet.{packet_of}
use Rattle.packet_codec.specs.declared.packet.Packet.TheVariants.{Token, Transmit, Information}
use Rattle.packet_codec.proofs.reading.packet_of.Goals as goal

pub returns-then-identifier-eq1 : goal.returns-then-identifier-eq1
unfolding packet_of
returns-then-identifier-eq1 c = simp (eq-eqb _ _ c.if-identifier-eq1.true) (ap Token c.short_of.ensures)

pub returns-then-identifier-eq2 : goal.returns-then-identifier-eq2
unfolding packet_of
returns-then-identifier-eq2 c = simp (ne_eqb _ _ c.if-identifier-eq1.false, eq-eqb _ _ c.if-identifier-eq2.true) (ap Transmit c.short_of-then-identifier-eq2.ensures)

pub returns : goal.returns
unfolding packet_of
returns c = simp (ne_eqb _ _ c.if-identifier-eq1.false, ne_eqb _ _ c.if-identifier-eq2.false) (ap Information c.head_of.ensures)
