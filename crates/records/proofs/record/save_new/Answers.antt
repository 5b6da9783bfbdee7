-- `record::save_new` meets its contract: own position and the ones are laid over zeros.
use Rattle.records.proofs.Laws.Anew.{record_made}
use Rattle.records.proofs.record.save_new.Goals as goal

pub returns : goal.returns
returns c =
    let a = c.args in
    record_made a.out.now _ _ _ _ a.file.now a.n a.own c.requires.0 c.requires.1.0 c.requires.1.1
    c.copy.ensures
    c.clear.ensures
    c.put.ensures
    c.put_ones.ensures
