use Rattle.script.proofs.Laws.Session.{ring_laid}
use Rattle.script.proofs.session.begin.Goals as goal

pub returns-clause-text : goal.returns-clause-text
returns-clause-text c =
    let a = c.args in
    ring_laid a.out.now _ _ a.at _ _ a.n c.new-bench.result c.requires.room c.new-bench.ensures c.put_heading-used.ensures c.put_wire-used.ensures
