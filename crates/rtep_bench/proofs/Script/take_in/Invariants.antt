-- Each turn reads further.
use Rattle.std.proofs.Common.{length}
use Rattle.rtep_bench.proofs.Script.take_in.Given as goal

abbrev pub decreases-loop-behind : goal.decreases-loop-behind
decreases-loop-behind g l = length l.rest
