-- `begin::refusal_of` meets its contract: the first of the two numbers that is not 0.
use Rattle.replay.proofs.Laws.Refusing.{refused_ring, refused_capture}
use Rattle.replay.proofs.begin.refusal_of.Goals as goal

pub returns-then-number-ne0 : goal.returns-then-number-ne0
returns-then-number-ne0 c =
    let a = c.args in
    refused_ring a.file.now a.capture.now _ c.read_into-number.ensures.0 c.if-number-ne0.true

pub returns : goal.returns
returns c =
    let a = c.args in
    refused_capture a.file.now a.capture.now _ c.read_into-number.ensures.0 _ c.if-number-ne0.false c.capture_number.ensures
