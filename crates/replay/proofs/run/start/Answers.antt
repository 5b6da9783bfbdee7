-- `run::start` meets its contract.
use mathlib.Core.Path.{refl}
use Rattle.replay.proofs.Laws.Starting.{first_course}
use Rattle.replay.proofs.run.start.Goals as goal

pub returns : goal.returns
returns c =
    let b = c.new-b in
    (first_course _ _ b.result _ _ b.ensures c.empty-none.ensures c.join-wire.ensures, (refl, refl))
