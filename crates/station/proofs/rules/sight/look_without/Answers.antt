-- `round::look_without` meets its contract: each part is its callee's.
use Rattle.station.specs.Decide.{live_without, competing}
use Rattle.station.proofs.rules.sight.look_without.Goals as goal

pub returns : goal.returns
unfolding live_without competing
returns c = rw (c.choose-head.ensures, c.flight-flight.ensures, c.successor-next.ensures, c.without-live.ensures)
