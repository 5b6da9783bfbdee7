-- `heard::heard_message` meets its contract: its place is the lowest free one.
use Rattle.station.proofs.rules.heard.heard_message.Goals as goal

pub returns : goal.returns
returns c = rw c.lowest_free-place.ensures
