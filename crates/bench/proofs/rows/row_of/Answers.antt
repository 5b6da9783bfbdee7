-- `rows::row_of` meets its contract: each field is its callee's.
use Rattle.bench.specs.Rows.{row_of}
use Rattle.bench.proofs.rows.row_of.Goals as goal

pub returns : goal.returns
unfolding row_of
returns c = rw (c.octets_of-octets.ensures, c.priority_in-priority.ensures, c.kind_of-kind.ensures, c.number_of-number.ensures)
