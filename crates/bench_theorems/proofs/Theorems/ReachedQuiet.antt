-- Every bench that a run comes to is quiet: a ring of 2 to 64 members with a retry limit of 1 to 15, then any steps and queue calls with any numbers.
-- Assumes nothing.
use mathlib.Core.Path.{◌≡◌, refl, ◌∙◌}
use mathlib.Core.Bool.{Bool, true, false}
use mathlib.Core.List.{List, [], ◌∷◌}
use Prim.Native.Nat.{ℕ, ◌≤◌}
use lib.Dec.{leb}
use Rattle.parts.specs.Choose.{pick}
use Rattle.parts.specs.Live.{seats}
use Rattle.station.specs.Queue.{queue_rule}
use Rattle.parts.specs.Frames.{Dispatch}
use Rattle.std.specs.Prelude.{None, Some}
use Rattle.bench.specs.Ring.{station_at, ring_with}
use Rattle.bench.specs.Delivery.{deliver_to, step_on, step}
use Rattle.bench.specs.Calls.{queue_at, queue}
use Rattle.bench.specs.Runs.{Event, stepped, queued, after_event, final}
use Rattle.bench.specs.declared.ring.Bench.{Bench}
use Rattle.bench.specs.declared.calls.Queued.{Queued}
use Rattle.bench_theorems.specs.Quiet.{Quiet}
use Rattle.bench_theorems.proofs.Laws.Delivering.{quiet_step}
use Rattle.bench_theorems.proofs.Laws.Queueing.{quiet_queue}
use Rattle.bench_theorems.proofs.Laws.Beginning.{ring_n}
use Rattle.bench_theorems.proofs.Laws.Ringing.{quiet_start}

pub quiet_event : {limit : ℕ} (b : Bench) → Quiet limit b → (e : Event) → Quiet limit (after_event b e)
unfolding after_event
quiet_event b q stepped = quiet_step b q
quiet_event b q (queued from r) = quiet_queue b q from r

pub quiet_run : {limit : ℕ} (b : Bench) → Quiet limit b → (es : List Event) → Quiet limit (final b es)
unfolding final
quiet_run b q [] = q
quiet_run b q (e ∷ es) = quiet_run (after_event b e) (quiet_event b q e) es

pub reached_quiet : (n limit : ℕ) → 2 ≤ n → n ≤ 64 → 1 ≤ limit → limit ≤ 15 → (es : List Event) → Quiet limit (final (ring_with n limit) es)
reached_quiet n limit two most low high es = quiet_run (ring_with n limit) (quiet_start n limit two most low high) es

-- ---- the ring keeps its size

step_n : (b : Bench) (d : Dispatch) → (step_on b d).n ≡ b.n
unfolding step_on deliver_to
step_n b None = refl
step_n b (Some (frame, to)) = refl

pub event_n : (b : Bench) (e : Event) → (after_event b e).n ≡ b.n
unfolding after_event step queue pick
event_n b stepped = step_n b b.wire.sent
event_n b (queued from r) = go (leb (seats b.n) from)
  where
    go : (t : Bool)
        → (pick {A = Queued} t (record { bench = b; number = 15 }) (queue_at b from (queue_rule (station_at b from) r))).bench.n ≡ b.n
    go true = refl
    go false = refl

run_n : (b : Bench) (es : List Event) → (final b es).n ≡ b.n
unfolding final
run_n b [] = refl
run_n b (e ∷ es) = run_n (after_event b e) es ∙ event_n b e

pub reached_n : (n limit : ℕ) → 2 ≤ n → n ≤ 64 → 1 ≤ limit → limit ≤ 15 → (es : List Event) → (final (ring_with n limit) es).n ≡ n
reached_n n limit two most low high es = run_n (ring_with n limit) es ∙ ring_n n limit two most
