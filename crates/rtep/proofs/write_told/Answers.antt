-- `write_told` meets its contract.
use borrow.Author.Tests.{ne_eqb}
use Rattle.rtep.specs.Told.{made_refusal}
use Rattle.rtep.proofs.write_told.Goals as goal

pub returns-then-number-ne0 : goal.returns-then-number-ne0
unfolding made_refusal
returns-then-number-ne0 c =
    let w = c.write_packet-number.ensures in
    record { answer = w.answer; out_is = w.out_is; told_is = simp (ne_eqb _ _ c.if-number-ne0.true) }

pub returns : goal.returns
unfolding made_refusal
returns c =
    record {
      answer = rw c.if-number-ne0.false at c.write_packet-number.ensures.answer;
      out_is = rw c.if-number-ne0.false at c.write_packet-number.ensures.out_is;
      told_is = rw (c.size.ensures, c.wire_octets.ensures);
    }
