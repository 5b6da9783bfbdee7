-- `lists::message_at` meets its contract: each field is the number in its octets.
use Rattle.records.proofs.lists.message_at.Goals as goal

pub returns : goal.returns
returns c = rw (c.get.ensures.0, c.get-2.ensures.0, c.get-3.ensures.0, c.get-4.ensures.0, c.get-5.ensures.0)
