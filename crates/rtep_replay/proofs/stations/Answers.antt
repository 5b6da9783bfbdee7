-- No ring has more than 64 members.
use Rattle.std.proofs.Common.{arith, rules}
use Rattle.parts.proofs.Laws.Live.{seats_most}
use Rattle.rtep_replay.proofs.stations.Goals as goal

pub put_station-used-requires : goal.put_station-used-requires
put_station-used-requires g c = (omega (arith, seats_most c.args.replay.n, c.seats-p-end.ensures, c.loop-p-test.true), search rules)
