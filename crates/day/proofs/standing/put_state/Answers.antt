-- `standing::put_state` meets its contract.
use Rattle.parts.specs.declared.moves.State.TheVariants.{Offline, Idle, Waiting, Alone, Excluded}
use Rattle.day.proofs.Laws.Standing.{state_laid}
use Rattle.day.proofs.standing.put_state.Goals as goal

pub returns-in-Offline : goal.returns-in-Offline
returns-in-Offline c =
    let a = c.args in
    state_laid a.out.now _ a.at a.s Offline c.in-Offline.is c.copy.ensures

pub returns-in-Idle : goal.returns-in-Idle
returns-in-Idle c =
    let a = c.args in
    state_laid a.out.now _ a.at a.s Idle c.in-Idle.is c.copy-in-Idle.ensures

pub returns-in-Waiting : goal.returns-in-Waiting
returns-in-Waiting c =
    let a = c.args in
    state_laid a.out.now _ a.at a.s Waiting c.in-Waiting.is c.copy-in-Waiting.ensures

pub returns-in-Alone : goal.returns-in-Alone
returns-in-Alone c =
    let a = c.args in
    state_laid a.out.now _ a.at a.s Alone c.in-Alone.is c.copy-in-Alone.ensures

pub returns-in-Excluded : goal.returns-in-Excluded
returns-in-Excluded c =
    let a = c.args in
    state_laid a.out.now _ a.at a.s Excluded c.in-Excluded.is c.copy-in-Excluded.ensures
