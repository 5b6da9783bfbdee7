-- `slip::slip_good` meets its contract.
use mathlib.Core.Path.{◌∙◌}
use Rattle.records.proofs.slip.slip_good.Goals as goal

pub returns : goal.returns
returns c = c.same_slip.ensures ∙ rw (c.slip_of-q.ensures, c.dispatch_from-d.ensures)
