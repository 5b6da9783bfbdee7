-- `reading::number_of` meets its contract: each arm's constructor says which number it is.
use Rattle.packet_codec.proofs.reading.number_of.Goals as goal

pub returns-in-Size : goal.returns-in-Size
returns-in-Size c = rw c.in-Size.is

pub returns-in-Identifier : goal.returns-in-Identifier
returns-in-Identifier c = rw c.in-Identifier.is

pub returns-in-BadAt : goal.returns-in-BadAt
returns-in-BadAt c = rw c.in-BadAt.is
