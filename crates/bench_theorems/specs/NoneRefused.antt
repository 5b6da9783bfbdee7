-- No frame that is handed over is refused, and a queue call gives the number of its own checks.
use Rattle.std.specs.Prelude.{◌≡◌, true, ℕ, ◌<◌, ◌≤◌, Some}
use Rattle.station.specs.Heard.{frame_rule}
use Rattle.parts.specs.Refusals.{queue_refusal}
use Rattle.parts.specs.declared.frame.Frame.{Frame}
use Rattle.parts.specs.declared.request.Request.{Request}
use Rattle.bench.specs.Ring.{station_at}
use Rattle.bench.specs.Calls.{queue}
use Rattle.bench.specs.declared.ring.Bench.{Bench}

-- whoever hears the frame on the wire gives 0
pub record NoneRefused (n : ℕ) (b : Bench) : Type 0 where
  pub frame : Frame
  pub to : ℕ
  pub on_wire : b.wire.sent ≡ Some (frame, to)
  pub heard : (p : ℕ) → p < n → (p ≡ b.wire.from → ⊥) → (frame_rule (station_at b p) frame b.wire.from to).number ≡ 0

-- 15 for a FROM outside the ring, and else what the checks give with everybody live
pub record OwnNumber (n : ℕ) (b : Bench) (from : ℕ) (r : Request) : Type 0 where
  pub outside : n ≤ from → (queue b from r).number ≡ 15
  pub inside : from < n → (queue b from r).number ≡ queue_refusal n from true (station_at b from).sends.len r
