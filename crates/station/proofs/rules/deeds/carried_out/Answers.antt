-- `deeds::carried_out` meets its contract: each part is its callee's.
use Rattle.station.specs.Deeds.{carried_out}
use Rattle.station.proofs.rules.deeds.carried_out.Goals as goal

pub returns : goal.returns
unfolding carried_out
returns c = rw (c.struck_by-struck.ensures, c.touch-station.ensures, c.receive-k.ensures, c.leave-p.ensures)
