-- `station::add_up_to` meets its contract: the test says whether there is room.
use mathlib.Core.Path.{sym}
use Rattle.station.proofs.Laws.Stations.{add_inside, add_past}
use Rattle.station.proofs.station.add_up_to.Goals as goal

pub returns-then-k-room : goal.returns-then-k-room
returns-then-k-room c = sym (add_inside _ _ c.if-k-room.true)

pub returns-else-k-room : goal.returns-else-k-room
returns-else-k-room c = sym (add_past _ _ c.if-k-room.false)
