-- `fields::look_length` meets its contract.
use borrow.Author.Tests.{eq-eqb, ne_eqb}
use Rattle.packet_codec.proofs.fields.look_length.Goals as goal

pub returns-then-is-called : goal.returns-then-is-called
returns-then-is-called c = simp (eq-eqb _ _ c.if-is-called.true)

pub returns : goal.returns
returns c = simp (ne_eqb _ _ c.if-is-called.false)
