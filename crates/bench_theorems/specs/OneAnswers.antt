-- "A step hands the frame to every other station and exactly the addressee answers."
use Rattle.std.specs.Prelude.{◌≡◌, ℕ, ◌<◌, None, Some}
use Rattle.station.specs.Heard.{frame_rule}
use Rattle.parts.specs.declared.frame.Frame.{Frame}
use Rattle.bench.specs.Ring.{station_at}
use Rattle.bench.specs.Delivery.{step}
use Rattle.bench.specs.declared.ring.Bench.{Bench}

-- the addressee, another member than the sender, sends a frame, which the step puts on the wire; everybody else sends nothing
pub record OneAnswers (n : ℕ) (b : Bench) : Type 0 where
  pub frame : Frame
  pub to : ℕ
  pub on_wire : b.wire.sent ≡ Some (frame, to)
  pub addressee : to < n
  pub another : to ≡ b.wire.from → ⊥
  pub answer : Frame
  pub onward : ℕ
  pub answers : (frame_rule (station_at b to) frame b.wire.from to).sent ≡ Some (answer, onward)
  pub others_silent : (p : ℕ) → p < n → (p ≡ b.wire.from → ⊥) → (p ≡ to → ⊥) → (frame_rule (station_at b p) frame b.wire.from to).sent ≡ None
  pub goes_on : (step b).wire ≡ record { from = to; sent = Some (answer, onward) }
