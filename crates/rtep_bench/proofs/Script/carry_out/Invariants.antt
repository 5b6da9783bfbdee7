-- Each turn leaves fewer steps.
use Rattle.rtep_bench.proofs.Script.carry_out.Given as goal

abbrev pub decreases-loop-left : goal.decreases-loop-left
decreases-loop-left g l = l.left
