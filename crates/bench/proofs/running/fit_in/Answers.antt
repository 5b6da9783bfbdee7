-- `running::fit_in` meets its contract: one test.
use Rattle.bench.proofs.Laws.Running.{fitting_less, fitting_count}
use Rattle.bench.proofs.running.fit_in.Goals as goal

pub returns-then-most-count : goal.returns-then-most-count
returns-then-most-count c = fitting_less _ _ _ c.room_from-room.ensures c.if-most-count.true

pub returns-else-most-count : goal.returns-else-most-count
returns-else-most-count c = fitting_count _ _ _ c.room_from-room.ensures c.if-most-count.false
