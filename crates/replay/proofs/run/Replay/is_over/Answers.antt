-- `Replay::is_over` meets its contract: one test, and the next record.
use Rattle.replay.proofs.Laws.Starting.{over_stopped, over_read}
use Rattle.replay.proofs.run.Replay.is_over.Goals as goal

pub returns-then-self-ne0 : goal.returns-then-self-ne0
returns-then-self-ne0 c =
    let a = c.args in
    over_stopped a.self a.capture.now c.if-self-ne0.true

pub returns : goal.returns
returns c =
    let a = c.args in
    over_read a.self a.capture.now _ _ c.if-self-ne0.false c.read_record-read.ensures c.is_end.ensures
