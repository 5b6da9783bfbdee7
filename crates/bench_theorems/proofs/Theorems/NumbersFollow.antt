-- "Frame numbers follow each other around 65,536": the first frame is number 0, each step's is the number after the one before it,
-- and so the frame on the wire has the number of steps taken, around 65,536. Assumes nothing.
use mathlib.Core.Path.{◌≡◌, sym, ap, ◌∙◌}
use mathlib.Core.List.{List, [], ◌∷◌}
use Prim.Native.Nat.{ℕ, ◌+◌, ◌%◌, ◌^◌, ◌≤◌}
use native.Mathlib.Nat.{mod-add-mod}
use native.Mathlib.Omega.{arith}
use Rattle.parts.specs.Frames.{next, Dispatch}
use Rattle.bench.specs.Ring.{ring_with}
use Rattle.bench.specs.Delivery.{step}
use Rattle.bench.specs.Runs.{Event, stepped, queued, after_event, final}
use Rattle.bench.specs.declared.ring.Wire.{Wire}
use Rattle.bench.specs.declared.ring.Bench.{Bench}
use Rattle.bench_theorems.specs.Quiet.{Quiet}
use Rattle.bench_theorems.specs.Counting.{steps_in, number_in, wire_number}
use Rattle.bench_theorems.specs.NumbersFollow.{Follows}
use Rattle.bench_theorems.proofs.Laws.Delivering.{reply_in, step_wire}
use Rattle.bench_theorems.proofs.Laws.Queueing.{queue_wire}
use Rattle.bench_theorems.proofs.Laws.Ringing.{first_wire, quiet_start}
use Rattle.bench_theorems.proofs.Theorems.ReachedQuiet.{quiet_event, reached_quiet}

quiet_follows : {limit : ℕ} (b : Bench) → Quiet limit b → Follows b
quiet_follows b q =
    record {
      frame = q.frame;
      to = q.to;
      on_wire = q.on_wire;
      new_frame = (reply_in b q).frame;
      new_to = (reply_in b q).to;
      then_on_wire = ap (λ (w : Wire). w.sent) (step_wire b q);
      follows = (reply_in b q).number;
    }

pub numbers_follow : (n limit : ℕ) → 2 ≤ n → n ≤ 64 → 1 ≤ limit → limit ≤ 15 → (es : List Event) → Follows (final (ring_with n limit) es)
numbers_follow n limit two most low high es = quiet_follows (final (ring_with n limit) es) (reached_quiet n limit two most low high es)

pub first_number : (n limit : ℕ) → 2 ≤ n → n ≤ 64 → 1 ≤ limit → limit ≤ 15 → wire_number (ring_with n limit) ≡ 0
first_number n limit two most low high = ap (λ (w : Wire). number_in w.sent) (first_wire n limit two most low high)

-- ---- counted from the first

step_number : {limit : ℕ} (b : Bench) → Quiet limit b → wire_number (step b) ≡ next (wire_number b)
step_number b q =
    let f = quiet_follows b q in
    ap number_in f.then_on_wire ∙ f.follows ∙ ap (λ (d : Dispatch). next (number_in d)) (sym f.on_wire)

run_number : {limit : ℕ} (b : Bench) → Quiet limit b → (j : ℕ) → wire_number b ≡ j % 2 ^ 16 → (es : List Event) → wire_number (final b es) ≡ (j + steps_in es) % 2 ^ 16
unfolding final steps_in after_event
run_number b q j e [] = e ∙ ap (λ (i : ℕ). i % 2 ^ 16) (omega arith)
run_number b q j e (stepped ∷ es) =
    run_number (after_event b stepped) (quiet_event b q stepped) (j + 1) (step_number b q ∙ ap next e ∙ mod-add-mod j (2 ^ 16) 1) es
    ∙ ap (λ (i : ℕ). i % 2 ^ 16) (omega arith)
run_number b q j e (queued from r ∷ es) =
    run_number (after_event b (queued from r)) (quiet_event b q (queued from r)) j
    (ap (λ (w : Wire). number_in w.sent) (queue_wire b from r) ∙ e) es

pub wire_number_lem : (n limit : ℕ) → 2 ≤ n → n ≤ 64 → 1 ≤ limit → limit ≤ 15 → (es : List Event) → wire_number (final (ring_with n limit) es) ≡ steps_in es % 2 ^ 16
wire_number_lem n limit two most low high es =
    run_number (ring_with n limit) (quiet_start n limit two most low high) 0 (first_number n limit two most low high) es ∙ ap (λ (i : ℕ). i % 2 ^ 16) (omega arith)
