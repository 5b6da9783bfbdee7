-- "A driver that leaves its record alone never sees 35": no call on the record gives that number, whatever it is handed.
use Rattle.std.specs.Prelude.{◌≡◌, List, ℕ}
use Rattle.parts.specs.declared.request.Request.{Request}
use Rattle.driver_calls.specs.Calls.{call_number, bad_out, bad_store, bad_buffers, start_answer, timer_answer, frame_answer, queue_answer, take_answer}

pub record Never35 (rec : List ℕ) : Type 0 where
  pub start : (out : ℕ) → call_number (bad_out out) rec (start_answer rec) ≡ 35 → ⊥
  pub frame : (store out from to : ℕ) (packet : List ℕ) → call_number (bad_buffers store out) rec (frame_answer rec from to packet) ≡ 35 → ⊥
  pub timer : (store out : ℕ) → call_number (bad_buffers store out) rec (timer_answer rec) ≡ 35 → ⊥
  pub queue : (store : ℕ) (q : Request) → call_number (bad_store store) rec (queue_answer rec q) ≡ 35 → ⊥
  pub take : (store channel : ℕ) (room : List ℕ) → call_number (bad_store store) rec (take_answer rec channel room) ≡ 35 → ⊥
