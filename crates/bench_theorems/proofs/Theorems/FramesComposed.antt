-- The wire is never empty: a step delivers the frame that is on it, and composes exactly one. So a run composes as many frames as it
-- has steps. Assumes nothing.
use mathlib.Core.Path.{◌≡◌, refl, ap, ◌∙◌}
use mathlib.Core.List.{List, [], ◌∷◌}
use Prim.Native.Nat.{ℕ, zero, suc, ◌≤◌}
use native.Mathlib.Omega.{arith}
use lib.ListN.{length, length-append}
use Rattle.parts.specs.declared.frame.Frame.{Frame}
use Rattle.std.specs.Prelude.{Some}
use Rattle.bench.specs.Ring.{ring_with}
use Rattle.bench.specs.Delivery.{step}
use Rattle.bench.specs.Rows.{row_on, rows_on}
use Rattle.bench.specs.Runs.{Event, stepped, queued, after_event, composed, final, frames, stepping}
use Rattle.bench.specs.declared.ring.Wire.{Wire}
use Rattle.bench.specs.declared.ring.Bench.{Bench}
use Rattle.bench_theorems.specs.Quiet.{Quiet}
use Rattle.bench_theorems.specs.Counting.{steps_in}
use Rattle.bench_theorems.specs.FramesComposed.{Delivers}
use Rattle.bench_theorems.proofs.Laws.Delivering.{step_delivers, step_wire}
use Rattle.bench_theorems.proofs.Laws.Ringing.{quiet_start}
use Rattle.bench_theorems.proofs.Theorems.ReachedQuiet.{quiet_event, reached_quiet}

pub step_is_delivery : (n limit : ℕ) → 2 ≤ n → n ≤ 64 → 1 ≤ limit → limit ≤ 15 → (es : List Event) → Delivers (final (ring_with n limit) es)
step_is_delivery n limit two most low high es =
    let q = reached_quiet n limit two most low high es in
    record { frame = q.frame; to = q.to; on_wire = q.on_wire; delivers = step_delivers (final (ring_with n limit) es) q }

-- ---- how many

one_row : (from : ℕ) (f : Frame) (to : ℕ) → length (row_on from (Some (f, to))) ≡ 1
unfolding row_on
one_row from f to = refl

one_composed : {limit : ℕ} (b : Bench) → Quiet limit b → length (rows_on (step b).wire) ≡ 1
one_composed b q = ap (λ (w : Wire). length (rows_on w)) (step_wire b q) ∙ one_row _ _ _

pub frames_length : {limit : ℕ} (b : Bench) → Quiet limit b → (es : List Event) → length (frames b es) ≡ steps_in es
unfolding frames composed steps_in
frames_length b q [] = refl
frames_length b q (stepped ∷ es) =
    length-append (rows_on (step b).wire) (frames (after_event b stepped) es)
    ∙ omega (arith, one_composed b q, frames_length (after_event b stepped) (quiet_event b q stepped) es)
frames_length b q (queued from r ∷ es) =
    frames_length (after_event b (queued from r)) (quiet_event b q (queued from r)) es

pub frames_composed : (n limit : ℕ) → 2 ≤ n → n ≤ 64 → 1 ≤ limit → limit ≤ 15 → (es : List Event) → length (frames (ring_with n limit) es) ≡ steps_in es
frames_composed n limit two most low high es = frames_length (ring_with n limit) (quiet_start n limit two most low high) es

steps_stepping : (k : ℕ) → steps_in (stepping k) ≡ k
unfolding steps_in stepping
steps_stepping zero = refl
steps_stepping (suc k) = ap suc (steps_stepping k)

-- k steps of any bench that a run comes to
pub steps_compose : (n limit : ℕ) → 2 ≤ n → n ≤ 64 → 1 ≤ limit → limit ≤ 15 → (es : List Event) (k : ℕ) → length (frames (final (ring_with n limit) es) (stepping k)) ≡ k
steps_compose n limit two most low high es k = frames_length (final (ring_with n limit) es) (reached_quiet n limit two most low high es) (stepping k) ∙ steps_stepping k
