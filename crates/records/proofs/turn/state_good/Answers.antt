-- `turn::state_good` meets its contract.
use Rattle.records.proofs.turn.state_good.Goals as goal

pub returns : goal.returns
returns c = rw (c.state_number.ensures, c.state_from.ensures)
