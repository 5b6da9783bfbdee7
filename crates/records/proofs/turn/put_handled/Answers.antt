-- `turn::put_handled` meets its contract.
use mathlib.Core.Path.{◌∙◌}
use Rattle.records.proofs.turn.put_handled.Goals as goal

pub returns : goal.returns
returns c = c.put_two.ensures ∙ rw (c.handled_flag.ensures, c.handled_number.ensures)
