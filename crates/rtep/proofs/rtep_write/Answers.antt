-- `rtep_write` meets its contract: each arm's constructor says what the eight numbers make.
use mathlib.Core.Path.{sym, ◌∙◌}
use Rattle.rtep.proofs.Laws.Told.{nothing_told}
use Rattle.rtep.proofs.rtep_write.Goals as goal

pub returns-in-None : goal.returns-in-None
returns-in-None c =
    let a = c.args in
    let e = sym c.made_of.ensures ∙ c.in-None.is in
    rw e (nothing_told a.ring.now a.information.now a.out.now a.told.now _ c.refuse_nothing.ensures)

pub returns-in-Some : goal.returns-in-Some
returns-in-Some c =
    let e = sym c.made_of.ensures ∙ c.in-Some.is in
    rw e c.write_told.ensures
