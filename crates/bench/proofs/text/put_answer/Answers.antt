-- `text::put_answer` meets its contract: nothing for 0, else the word and the number.
use Rattle.bench.proofs.Laws.Laying.{answer_none, answer_some}
use Rattle.bench.proofs.text.put_answer.Goals as goal

pub returns-then-number-eq0 : goal.returns-then-number-eq0
returns-then-number-eq0 c =
    let a = c.args in
    answer_none a.out.now a.at a.number c.if-number-eq0.true

pub returns : goal.returns
returns c =
    let a = c.args in
    answer_some a.out.now _ _ a.at a.number _ c.requires c.if-number-eq0.false c.copy.ensures c.put_cell.ensures.0 c.put_cell.ensures.1
