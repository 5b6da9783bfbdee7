-- `run::turns_in` meets its contract: one test.
use Rattle.replay.proofs.Laws.Starting.{turns_room, turns_left}
use Rattle.replay.proofs.run.turns_in.Goals as goal

pub returns-then-most-left : goal.returns-then-most-left
returns-then-most-left c = turns_room _ _ _ _ c.room_from-room.ensures c.countable-left.ensures c.if-most-left.true

pub returns-else-most-left : goal.returns-else-most-left
returns-else-most-left c = turns_left _ _ _ _ c.room_from-room.ensures c.countable-left.ensures c.if-most-left.false
