-- `Replay::put_station` meets its contract.
use mathlib.Core.Path.{◌≡◌}
use native.Mathlib.Omega.{arith}
use lib.ListN.{length}
use Rattle.parts.proofs.Laws.Messages.{length_mapped}
use Rattle.replay.proofs.Laws.Starting.{station_any}
use Rattle.replay.proofs.run.Replay.put_station.Goals as goal

pub returns : goal.returns
returns c =
    let size : length c.args.self.stations ≡ 64 = search length_mapped in
    station_any c.args.out.now _ c.args.at _ c.args.self.n c.args.p c.args.self.stations _ (omega (arith, c.requires)) c.put_station.ensures
