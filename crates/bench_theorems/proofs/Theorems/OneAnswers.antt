-- "A step hands the frame to every other station and exactly the addressee answers": the addressee, another member than the sender,
-- sends a frame, which the step puts on the wire; every other station that hears it sends nothing. Assumes nothing.
use mathlib.Core.List.{List}
use Prim.Native.Nat.{ℕ, ◌≤◌}
use native.Mathlib.Omega.{arith}
use Rattle.bench.specs.Ring.{ring_with}
use Rattle.bench.specs.Runs.{Event, final}
use Rattle.bench.specs.declared.ring.Bench.{Bench}
use Rattle.bench_theorems.specs.OneAnswers.{OneAnswers}
use Rattle.bench_theorems.proofs.Laws.Answers.{silent_at, new_sent}
use Rattle.bench_theorems.proofs.Laws.Delivering.{reply_in, step_wire}
use Rattle.bench_theorems.proofs.Theorems.ReachedQuiet.{reached_quiet, reached_n}

pub one_answers : (n limit : ℕ) → 2 ≤ n → n ≤ 64 → 1 ≤ limit → limit ≤ 15 → (es : List Event) → OneAnswers n (final (ring_with n limit) es)
one_answers n limit two most low high es =
    let b : Bench = final (ring_with n limit) es in
    let q = reached_quiet n limit two most low high es in
    record {
      frame = q.frame;
      to = q.to;
      on_wire = q.on_wire;
      addressee = omega (arith, reached_n n limit two most low high es, q.picture.addressee_member);
      another = q.picture.another;
      answer = (reply_in b q).frame;
      onward = (reply_in b q).to;
      answers = new_sent q.picture;
      others_silent = λ p h o x.
          (silent_at q.picture p (omega (arith, reached_n n limit two most low high es)) o x).sent;
      goes_on = step_wire b q;
    }
