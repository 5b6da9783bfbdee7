-- `reading::refusal_in` meets its contract.
use borrow.Author.Tests.{eq-eqb, ne_eqb}
use Rattle.packet_codec.specs.Packet.{refusal_in}
use Rattle.packet_codec.proofs.reading.refusal_in.Goals as goal

pub returns-then-number-eq10 : goal.returns-then-number-eq10
unfolding refusal_in
returns-then-number-eq10 c = simp (eq-eqb _ _ c.if-number-eq10.true)

pub returns-then-number-eq11 : goal.returns-then-number-eq11
unfolding refusal_in
returns-then-number-eq11 c = simp (ne_eqb _ _ c.if-number-eq10.false, eq-eqb _ _ c.if-number-eq11.true)

pub returns : goal.returns
unfolding refusal_in
returns c = simp (ne_eqb _ _ c.if-number-eq10.false, ne_eqb _ _ c.if-number-eq11.false)
