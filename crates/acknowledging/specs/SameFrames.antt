-- "The fault-free bench gives the same frames as before."
use Rattle.std.specs.Prelude.{◌≡◌, List}
use Rattle.bench.specs.Runs.{Event, final, frames}
use Rattle.bench.specs.declared.ring.Bench.{Bench}
use Rattle.acknowledging.specs.Before.{final_before, frames_before}

-- a run from b leaves the same stations with the same frame on the wire, and has composed the same frames, by both rules
pub record SameFrames (b : Bench) (es : List Event) : Type 0 where
  pub same_bench : final_before b es ≡ final b es
  pub same_frames : frames_before b es ≡ frames b es
