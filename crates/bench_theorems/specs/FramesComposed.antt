-- A step delivers the frame on the wire: the wire is never empty.
use Rattle.std.specs.Prelude.{◌≡◌, ℕ, Some}
use Rattle.parts.specs.declared.frame.Frame.{Frame}
use Rattle.bench.specs.Delivery.{deliver, step}
use Rattle.bench.specs.declared.ring.Bench.{Bench}

-- the frame on the wire, and what a step does with it
pub record Delivers (b : Bench) : Type 0 where
  pub frame : Frame
  pub to : ℕ
  pub on_wire : b.wire.sent ≡ Some (frame, to)
  pub delivers : step b ≡ deliver b frame to
