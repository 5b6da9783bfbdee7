-- So the bound of demand 3 holds of a capture of records 0 and 4: an accepted message that stays strictly above every other waiting one goes
-- within the bound. Assumes nothing.
use mathlib.Core.Path.{◌≡◌, refl, sym, ap, subst, ◌∙◌}
use mathlib.Core.Bool.{Bool, true}
use mathlib.Core.List.{List, [], ◌∷◌, ◌++◌}
use Prim.Native.Nat.{ℕ, ◌+◌, ◌<◌, ◌≤◌}
use lib.ListN.{length}
use Rattle.parts.specs.Choose.{every}
use Rattle.parts.proofs.Laws.Tests.{each, each_none, each_first, each_rest}
use Rattle.station.specs.Queue.{queue_rule}
use Rattle.parts.specs.declared.request.Request.{Request}
use Rattle.bench.specs.Ring.{ring_with}
use Rattle.bench.specs.Calls.{queue}
use Rattle.bench.specs.Runs.{after_event, final}
use Rattle.bench.specs.declared.ring.Bench.{Bench}
use Rattle.bench_theorems.specs.Quiet.{Quiet}
use Rattle.bench_theorems.proofs.Laws.Queueing.{quiet_queue}
use Rattle.bench_theorems.proofs.Theorems.ReachedQuiet.{reached_quiet, reached_n}
use Rattle.waiting.specs.Waiting.{spot_for, StaysOnTop, at_queue}
use Rattle.waiting.proofs.Theorems.Bound.{bound}
use Rattle.capture.specs.declared.record.Event.TheVariants.{Queue}
use Rattle.day.specs.Day.{member_at, begun_by, start_day}
use Rattle.replay.specs.Runs.{Record, good, Course, turn, gone, begun, records_of, asked_all}
use Rattle.replay_theorems.specs.Lines.{run_lines}
use Rattle.replay_theorems.specs.Read.{AllRead}
use Rattle.replay_theorems.specs.FaultFree.{is_fault_free, bench_events, accepted_on, BoundHolds}
use Rattle.replay_theorems.proofs.Laws.Reading.{all_asked}
use Rattle.replay_theorems.proofs.Laws.SameKinds.{asked_free}
use Rattle.replay_theorems.proofs.Laws.OnBench.{queue_number_lem, queue_n}
use Rattle.replay_theorems.proofs.Laws.SameRun.{as_bench, Same, run_same, first_same}

-- ---- two lists of records

gone_append : (c : Course) (rs ss : List Record) → gone c (rs ++ ss) ≡ gone (gone c rs) ss
unfolding gone
gone_append c [] ss = refl
gone_append c (r ∷ rs) ss = gone_append (turn c r) rs ss

read_parts : (n : ℕ) (rs ss : List Record) → AllRead n (rs ++ ss) → AllRead n rs × AllRead n ss
read_parts n [] ss h = (tt, h)
read_parts n (r ∷ rs) ss h = let t = read_parts n rs ss h.1 in ((h.0, t.0), t.1)

free_parts : (rs ss : List Record) → every is_fault_free (rs ++ ss) ≡ true → (every is_fault_free rs ≡ true) × (every is_fault_free ss ≡ true)
free_parts [] ss h = (each_none is_fault_free, h)
free_parts (r ∷ rs) ss h =
    let t = free_parts rs ss (each_rest is_fault_free r (rs ++ ss) h) in
    (each is_fault_free r rs (each_first is_fault_free r (rs ++ ss) h) t.0, t.1)

-- ---- the message of the queue record between them

-- a queue record alone
one_queue : (b : Bench) (k from : ℕ) (r : Request) → Same b k (good (Queue from r) ∷ []) → gone (as_bench b k) (good (Queue from r) ∷ []) ≡ as_bench (queue b from r).bench (k + 1)
unfolding bench_events final after_event
one_queue b k from r s = s.course

module _ (n limit : ℕ) (two : 2 ≤ n) (most : n ≤ 64) (low : 1 ≤ limit) (high : limit ≤ 15) where
  pub bound_holds : (early : List Record) (from : ℕ) (r : Request) (after : List Record) → AllRead n (early ++ (good (Queue from r) ∷ after))
      → every is_fault_free (early ++ (good (Queue from r) ∷ after)) ≡ true
      → (queue_rule (member_at (gone (begun (start_day n limit)) early).day from) r).number ≡ 0
      → StaysOnTop (spot_for (at_queue n limit (bench_events early)) from) r.priority (accepted_on n limit early from r) (bench_events after)
      → BoundHolds n limit early from r after
  unfolding start_day
  bound_holds early from r after h f z t =
      let read = read_parts n early (good (Queue from r) ∷ after) h in
      let free = free_parts early (good (Queue from r) ∷ after) f in
      let b : Bench = at_queue n limit (bench_events early) in
      let quiet : Quiet limit b = reached_quiet n limit two most low high (bench_events early) in
      let size : b.n ≡ n = reached_n n limit two most low high (bench_events early) in
      let start : Course = begun (begun_by (ring_with n limit)) in
      let to_b : gone start early ≡ as_bench b (0 + length early) = (first_same n limit two most low high early read.0 free.0).course in
      let inside : from < b.n = subst (λ (i : ℕ). from < i) (sym size) read.1.0.station_in in
      let number : (queue b from r).number ≡ 0 =
      sym (queue_number_lem b quiet from inside r) ∙ ap (λ (c : Course). (queue_rule (member_at c.day from) r).number) (sym to_b) ∙ z in
      let alone : Same b (0 + length early) (good (Queue from r) ∷ []) =
      run_same (good (Queue from r) ∷ []) b quiet (0 + length early) (subst (λ (i : ℕ). AllRead i (good (Queue from r) ∷ [])) (sym size) (read.1.0, tt))
      (each is_fault_free (good (Queue from r)) [] refl (each_none is_fault_free)) in
      let to_a : gone start (early ++ (good (Queue from r) ∷ [])) ≡ as_bench (queue b from r).bench (0 + length early + 1) =
      gone_append start early (good (Queue from r) ∷ [])
      ∙ ap (λ (c : Course). gone c (good (Queue from r) ∷ [])) to_b
      ∙ one_queue b (0 + length early) from r alone in
      let later : Same (queue b from r).bench (0 + length early + 1) after =
      run_same after (queue b from r).bench (quiet_queue b quiet from r) (0 + length early + 1)
      (subst (λ (i : ℕ). AllRead i after) (sym (queue_n b quiet from inside r ∙ size)) read.1.1) (each_rest is_fault_free (good (Queue from r)) after free.1) in
      record {
        accepted_day = ap (λ (c : Course). c.day) to_a;
        lines_after = ap (λ (c : Course). run_lines c after) to_a ∙ later.lines;
        bound = bound n limit two most low high (bench_events early) from r number (bench_events after) t;
      }

  -- of a capture
  pub capture_bound : (hears : ℕ → ℕ → Bool) (s : List ℕ) → every is_fault_free (records_of n s) ≡ true
      → (early : List Record) (from : ℕ) (r : Request) (after : List Record) → asked_all hears (records_of n s) ≡ early ++ (good (Queue from r) ∷ after)
      → (queue_rule (member_at (gone (begun (start_day n limit)) early).day from) r).number ≡ 0
      → StaysOnTop (spot_for (at_queue n limit (bench_events early)) from) r.priority (accepted_on n limit early from r) (bench_events after)
      → BoundHolds n limit early from r after
  capture_bound hears s f early from r after e z t =
      bound_holds early from r after (subst (AllRead n) e (all_asked n hears s)) (ap (every is_fault_free) (sym e) ∙ asked_free hears (records_of n s) f) z t
