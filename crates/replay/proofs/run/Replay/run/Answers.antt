-- `Replay::run` meets its contract: as many records as there is room for, all in one call over the lent table.
use mathlib.Core.Path.{◌≡◌}
use lib.ListN.{length}
use Rattle.parts.proofs.Laws.Messages.{length_mapped}
use Rattle.replay.proofs.Laws.Starting.{call_begins, ran_from}
use Rattle.replay.proofs.run.Replay.run.Goals as goal

pub run_in-r-requires : goal.run_in-r-requires
run_in-r-requires c =
    let a = c.args in
    let t = c.turns_in-most in
    let size : length a.self.wire.items ≡ 64 = search length_mapped in
    call_begins a.self a.capture.now a.out.now a.at t.result t.ensures size

pub returns : goal.returns
returns c =
    let a = c.args in
    let t = c.turns_in-most in
    let r = c.run_in-r in
    ran_from a.self a.capture.now a.out.now a.at t.result t.ensures r.result.going r.result.stations _ r.ensures
