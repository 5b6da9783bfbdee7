-- `text::put_flying` meets its contract.
use Rattle.day.proofs.text.put_flying.Goals as goal

pub returns : goal.returns
returns c = rw (← c.row_of-row.ensures) c.put_row.ensures
