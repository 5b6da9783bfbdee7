-- `lists::rest_good` meets its contract.
use Rattle.records.specs.Fields.{rest_good}
use Rattle.records.proofs.lists.rest_good.Goals as goal

pub returns : goal.returns
unfolding rest_good
returns c = rw (c.nonzero.ensures, c.count_at-k.ensures.0)
