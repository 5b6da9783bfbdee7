-- "Frame numbers follow each other around 65,536."
use Rattle.std.specs.Prelude.{◌≡◌, ℕ, Some}
use Rattle.parts.specs.Frames.{number_of, next}
use Rattle.parts.specs.declared.frame.Frame.{Frame}
use Rattle.bench.specs.Delivery.{step}
use Rattle.bench.specs.declared.ring.Bench.{Bench}

-- a frame is on the wire, and after a step the one that follows it
pub record Follows (b : Bench) : Type 0 where
  pub frame : Frame
  pub to : ℕ
  pub on_wire : b.wire.sent ≡ Some (frame, to)
  pub new_frame : Frame
  pub new_to : ℕ
  pub then_on_wire : (step b).wire.sent ≡ Some (new_frame, new_to)
  pub follows : number_of new_frame ≡ next (number_of frame)
