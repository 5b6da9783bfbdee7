-- `table::goes_on` meets its contract: one test, and then whether a frame is on the wire.
use native.Mathlib.Omega.{arith}
use Rattle.bench.proofs.Laws.Stepping.{over_on, sent_on, none_on}
use Rattle.bench.proofs.table.goes_on.Goals as goal

pub returns-then-g : goal.returns-then-g
returns-then-g c = over_on c.args.g c.if-g.true

pub returns-in-Some : goal.returns-in-Some
returns-in-Some c = sent_on c.args.g _ _ (omega arith) c.in-Some.is

pub returns-in-None : goal.returns-in-None
returns-in-None c = none_on c.args.g (omega arith) c.in-None.is
