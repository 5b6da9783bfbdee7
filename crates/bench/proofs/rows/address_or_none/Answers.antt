-- `rows::address_or_none` meets its contract: each case by itself.
use mathlib.Core.Path.{◌∙◌}
use Rattle.bench.proofs.rows.address_or_none.Goals as goal

pub returns-in-Some : goal.returns-in-Some
returns-in-Some c = c.address_of.ensures ∙ rw c.in-Some.is
