-- `standing::put_standing` meets its contract: its three parts, side by side, are one.
use native.Mathlib.Omega.{arith}
use Rattle.bench.specs.Text.{space}
use Rattle.bench.proofs.Laws.Laying.{cell_short}
use Rattle.parts.proofs.Laws.Live.{seats_most}
use Rattle.station.specs.Stations.{state_of}
use Rattle.day.proofs.Laws.Standing.{state_short, standing_laid}
use Rattle.day.proofs.standing.put_standing.Goals as goal

pub put_state-b-requires : goal.put_state-b-requires
put_state-b-requires c =
    omega (arith, c.put_cell-a.ensures.1, cell_short c.args.p space)

pub put_live-requires : goal.put_live-requires
put_live-requires c =
    let a = c.args in
    omega (arith, c.put_cell-a.ensures.1, cell_short a.p space, c.put_state-b.ensures.1, state_short (state_of a.s), c.seats.ensures, seats_most a.n)

pub returns : goal.returns
returns c =
    let a = c.args in
    let e = c.seats.ensures in
    standing_laid a.out.now _ _ _ a.at _ _ _ a.n a.p a.s c.requires c.put_cell-a.ensures.0 c.put_cell-a.ensures.1 c.put_state-b.ensures.0 c.put_state-b.ensures.1 (rw (← e) c.put_live.ensures.0) (rw (← e) c.put_live.ensures.1)
