-- `heard::is_last` meets its contract: by the constructor.
use Rattle.station.specs.Heard.{is_last}
use Rattle.station.proofs.rules.heard.is_last.Goals as goal

pub returns-in-None : goal.returns-in-None
unfolding is_last
returns-in-None c = rw c.in-None.is

pub returns-in-Some : goal.returns-in-Some
unfolding is_last
returns-in-Some c = rw c.in-Some.is
