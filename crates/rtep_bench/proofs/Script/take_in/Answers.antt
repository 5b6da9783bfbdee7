use Rattle.std.proofs.Common.{sym}
use Rattle.script.proofs.Laws.Reading.{rest_shorter}
use Rattle.rtep_bench.proofs.Script.take_in.Goals as goal

pub loop-behind-smaller : goal.loop-behind-smaller
loop-behind-smaller g c = rest_shorter c.loop-behind.self.held c.loop-behind.rest.now c.in-Some.behind.now (sym c.in-Some.ensures.rest)
