-- `standing::put_station` meets its contract: its two parts, side by side, are one.
use native.Mathlib.Omega.{arith}
use Rattle.day.proofs.Laws.Standing.{standing_short, station_laid}
use Rattle.day.proofs.standing.put_station.Goals as goal

pub put_numbers-requires : goal.put_numbers-requires
put_numbers-requires c =
    let a = c.args in
    omega (arith, c.put_standing-a.ensures.1, standing_short a.n a.p a.s)

pub returns : goal.returns
returns c =
    let a = c.args in
    station_laid a.out.now _ _ a.at _ _ a.n a.p a.s c.requires c.put_standing-a.ensures.0 c.put_standing-a.ensures.1 c.put_numbers.ensures.0 c.put_numbers.ensures.1
