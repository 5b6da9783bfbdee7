-- What is fed from here gives what is fed from the start.
use Rattle.std.proofs.Common.{◌≡◌, length}
use Rattle.script.specs.Reading.{fed_from}
use Rattle.script.proofs.reading.feed.Given as goal

abbrev pub invariant-loop-c : goal.invariant-loop-c
invariant-loop-c l = fed_from l.held l.rest ≡ fed_from l.initial.held l.s

abbrev pub decreases-loop-c : goal.decreases-loop-c
decreases-loop-c l = length l.rest
