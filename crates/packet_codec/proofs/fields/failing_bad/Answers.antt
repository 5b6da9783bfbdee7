-- `fields::failing_bad` meets its contract.
use borrow.Author.Tests.{eq-eqb, ne_eqb}
use Rattle.packet_codec.specs.Packet.{failing_bad}
use Rattle.packet_codec.proofs.fields.failing_bad.Goals as goal

pub returns-then-failing-eq0 : goal.returns-then-failing-eq0
unfolding failing_bad
returns-then-failing-eq0 c = simp (eq-eqb _ _ c.if-failing-eq0.true)

pub returns : goal.returns
unfolding failing_bad
returns c = simp (ne_eqb _ _ c.if-failing-eq0.false, c.belongs.ensures)
