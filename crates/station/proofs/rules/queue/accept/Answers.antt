-- `queue::accept` meets its contract: the place and the message are its callees'.
use mathlib.Core.Path.{◌∙◌}
use Rattle.station.specs.Queue.{accepted}
use Rattle.station.proofs.rules.queue.accept.Goals as goal

pub message_for-m-requires : goal.message_for-m-requires
message_for-m-requires c = c.requires

pub returns : goal.returns
unfolding accepted
returns c = c.join.ensures ∙ rw (c.message_for-m.ensures, c.lowest_free-place.ensures)
