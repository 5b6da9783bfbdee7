use Rattle.script.proofs.Laws.Reading.{keep_room, keep_full}
use Rattle.script.proofs.reading.Held.hold.Goals as goal

pub returns-then-len-lt40 : goal.returns-then-len-lt40
returns-then-len-lt40 c = keep_room c.args.self.now c.args.c c.if-len-lt40.true

pub returns-else-len-lt40 : goal.returns-else-len-lt40
returns-else-len-lt40 c = keep_full c.args.self.now c.args.c c.if-len-lt40.false
