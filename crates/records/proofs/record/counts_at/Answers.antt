-- `record::counts_at` meets its contract: each count is what its octets say.
use Rattle.records.proofs.record.counts_at.Goals as goal

pub returns : goal.returns
returns c = rw (c.get.ensures.0, c.get-2.ensures.0)
