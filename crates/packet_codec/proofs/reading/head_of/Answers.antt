-- `reading::head_of` meets its contract: each field is the number in its octets.
use Rattle.packet_codec.proofs.reading.head_of.Goals as goal

pub returns : goal.returns
returns c = rw (c.get.ensures.0, c.get-2.ensures.0, c.get-3.ensures.0)
