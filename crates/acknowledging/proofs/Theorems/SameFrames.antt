-- The fault-free bench gives the same frames as before: on every ring of 2 to 64 members with a retry limit of 1 to 15, for every list of
-- steps and queue calls, the stations and the frames are the same by the rule as it was and by the rule of now. Assumes nothing.
use mathlib.Core.Path.{◌≡◌, refl, ap, ◌∙◌}
use mathlib.Core.List.{List, [], ◌∷◌, ◌++◌}
use Prim.Native.Nat.{ℕ, ◌≤◌}
use Rattle.bench.specs.Ring.{ring_with}
use Rattle.bench.specs.Rows.{rows_on}
use Rattle.bench.specs.Runs.{Event, stepped, queued, after_event, composed, final, frames}
use Rattle.bench.specs.declared.ring.Bench.{Bench}
use Rattle.bench.specs.declared.rows.Row.{Row}
use Rattle.bench_theorems.specs.Quiet.{Quiet}
use Rattle.bench_theorems.proofs.Theorems.ReachedQuiet.{quiet_event}
use Rattle.bench_theorems.proofs.Laws.Ringing.{quiet_start}
use Rattle.acknowledging.specs.Before.{after_event_before, composed_before, final_before, frames_before}
use Rattle.acknowledging.specs.SameFrames.{SameFrames}
use Rattle.acknowledging.proofs.Laws.Both.{same_step}

same_event : {limit : ℕ} (b : Bench) → Quiet limit b → (e : Event) → after_event_before b e ≡ after_event b e
unfolding after_event_before after_event
same_event b q stepped = same_step b q
same_event b q (queued from r) = refl

same_row : {limit : ℕ} (b : Bench) → Quiet limit b → (e : Event) → composed_before b e ≡ composed b e
unfolding composed_before composed
same_row b q stepped = ap (λ (c : Bench). rows_on c.wire) (same_step b q)
same_row b q (queued from r) = refl

quiet_same_bench : {limit : ℕ} (b : Bench) → Quiet limit b → (es : List Event) → final_before b es ≡ final b es
unfolding final_before final
quiet_same_bench b q [] = refl
quiet_same_bench b q (e ∷ es) = ap (λ (c : Bench). final_before c es) (same_event b q e) ∙ quiet_same_bench (after_event b e) (quiet_event b q e) es

quiet_same_frames : {limit : ℕ} (b : Bench) → Quiet limit b → (es : List Event) → frames_before b es ≡ frames b es
unfolding frames_before frames
quiet_same_frames b q [] = refl
quiet_same_frames b q (e ∷ es) =
    ap (λ (r : List Row). r ++ frames_before (after_event_before b e) es) (same_row b q e)
    ∙ ap (λ (c : Bench). composed b e ++ frames_before c es) (same_event b q e)
    ∙ ap (λ (r : List Row). composed b e ++ r) (quiet_same_frames (after_event b e) (quiet_event b q e) es)

pub same_frames : (n limit : ℕ) → 2 ≤ n → n ≤ 64 → 1 ≤ limit → limit ≤ 15 → (es : List Event) → SameFrames (ring_with n limit) es
same_frames n limit two most low high es =
    let q = quiet_start n limit two most low high in
    record { same_bench = quiet_same_bench (ring_with n limit) q es; same_frames = quiet_same_frames (ring_with n limit) q es }
