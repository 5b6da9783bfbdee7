-- A run of records 0 and 4 goes as the bench does. Assumes nothing.
use mathlib.Core.Path.{◌≡◌, refl, sym, ap, subst, ◌∙◌}
use mathlib.Core.Bool.{true, false, false≢true}
use mathlib.Core.List.{List, [], ◌∷◌, ◌++◌}
use Prim.Native.Nat.{ℕ, suc, ◌+◌, ◌≤◌}
use native.Mathlib.Omega.{arith}
use lib.ListN.{length}
use Rattle.parts.specs.Choose.{every}
use Rattle.parts.proofs.Laws.Tests.{each_first, each_rest}
use Rattle.bench.specs.Ring.{ring_with}
use Rattle.bench.specs.Delivery.{step}
use Rattle.bench.specs.Calls.{queue}
use Rattle.bench.specs.Runs.{Event as BenchEvent, stepped, queued as queue_call, after_event, final}
use Rattle.bench.specs.declared.ring.Bench.{Bench}
use Rattle.bench_theorems.specs.Quiet.{Quiet}
use Rattle.bench_theorems.proofs.Laws.Delivering.{quiet_step}
use Rattle.bench_theorems.proofs.Laws.Queueing.{quiet_queue}
use Rattle.bench_theorems.proofs.Laws.Beginning.{ring_n}
use Rattle.bench_theorems.proofs.Laws.Ringing.{quiet_start}
use Rattle.capture.specs.declared.record.Event.{Event}
use Rattle.capture.specs.declared.record.Event.TheVariants.{Delivered, LostForAddressee, LostForAll, Timer, Queue}
use Rattle.day.specs.Day.{Day, begun_by}
use Rattle.day.specs.Records.{after_record, event_number}
use Rattle.replay.specs.Runs.{Record, good, bad, Course, record_number, turn, gone}
use Rattle.replay_theorems.specs.Lines.{Line, record_lines, turn_lines, run_lines}
use Rattle.replay_theorems.specs.Read.{AllRead}
use Rattle.replay_theorems.specs.FaultFree.{is_fault_free, bench_events, event_lines, events_lines}
use Rattle.replay_theorems.proofs.Laws.Turning.{Turns, over, stops, goes, turns}
use Rattle.replay_theorems.proofs.Laws.OnBench.{step_same, step_lines, step_n, queue_same, queue_lines, queue_n}

-- a run that has done k records and stands as the bench does
abbrev pub as_bench : Bench → ℕ → Course
as_bench b k = record { day = begun_by b; done = k; number = 0 }

-- ---- one record

number_zero : (d : Day) (e : Event) → event_number d e ≡ 0 → record_number d (good e) ≡ 0
unfolding record_number
number_zero d e z = z

-- a record that is not refused, and leaves the day as the bench
turn_same : (b : Bench) (k : ℕ) (e : Event) (c : Bench) → event_number (begun_by b) e ≡ 0 → after_record (begun_by b) e ≡ begun_by c
    → (turn (as_bench b k) (good e) ≡ as_bench c (suc k)) × (turn_lines (as_bench b k) (good e) ≡ record_lines (begun_by b) e)
turn_same b k e c z a = go (turns (as_bench b k) (good e))
  where
    go : Turns (as_bench b k) (good e) → (turn (as_bench b k) (good e) ≡ as_bench c (suc k)) × (turn_lines (as_bench b k) (good e) ≡ record_lines (begun_by b) e)
    go (over o t) = absurd (o refl)
    go (stops x o t) = absurd (o (number_zero (begun_by b) e z))
    go (goes x o t) = (t.leaves ∙ ap (λ (d : Day). let y : Course = record { day = d; done = suc k; number = 0 } in y) a, t.shows)

-- ---- a run

pub record Same (b : Bench) (k : ℕ) (rs : List Record) : Type 0 where
  pub course : gone (as_bench b k) rs ≡ as_bench (final b (bench_events rs)) (k + length rs)
  pub lines : run_lines (as_bench b k) rs ≡ events_lines b (bench_events rs)

same_none : (b : Bench) (k : ℕ) → Same b k []
unfolding gone run_lines bench_events final events_lines
same_none b k = record { course = ap (as_bench b) (omega arith); lines = refl }

same_first : (b c : Bench) (k : ℕ) (e : Event) (event : BenchEvent) (rs : List Record) → bench_events (good e ∷ rs) ≡ event ∷ bench_events rs
    → after_event b event ≡ c → event_number (begun_by b) e ≡ 0 → after_record (begun_by b) e ≡ begun_by c → record_lines (begun_by b) e ≡ event_lines b event
    → Same c (suc k) rs → Same b k (good e ∷ rs)
unfolding gone run_lines final events_lines
same_first b c k e event rs events a z r l s =
    let t = turn_same b k e c z r in
    record {
      course =
          ap (λ (x : Course). gone x rs) t.0
          ∙ s.course
          ∙ ap (λ (x : Bench). as_bench (final x (bench_events rs)) (suc k + length rs)) (sym a)
          ∙ ap (λ (es : List BenchEvent). as_bench (final b es) (suc k + length rs)) (sym events)
          ∙ ap (as_bench (final b (bench_events (good e ∷ rs)))) (omega arith);
      lines =
          ap (λ (x : Course). turn_lines (as_bench b k) (good e) ++ run_lines x rs) t.0
          ∙ ap (λ (x : List Line). x ++ run_lines (as_bench c (suc k)) rs) (t.1 ∙ l)
          ∙ ap (λ (x : List Line). event_lines b event ++ x) (s.lines ∙ ap (λ (x : Bench). events_lines x (bench_events rs)) (sym a))
          ∙ ap (events_lines b) (sym events);
    }

not_lost : {A : Type 0} (r : Record) (rs : List Record) → is_fault_free r ≡ false → every is_fault_free (r ∷ rs) ≡ true → A
not_lost r rs e h = absurd (false≢true (sym e ∙ each_first is_fault_free r rs h))

pub run_same : {limit : ℕ} (rs : List Record) (b : Bench) → Quiet limit b → (k : ℕ) → AllRead b.n rs → every is_fault_free rs ≡ true → Same b k rs
unfolding bench_events after_event event_number
run_same [] b q k h f = same_none b k
run_same (good Delivered ∷ rs) b q k h f =
    same_first b (step b) k Delivered stepped rs refl refl refl (step_same b q) (step_lines b q)
    (run_same rs (step b) (quiet_step b q) (suc k) (subst (λ (i : ℕ). AllRead i rs) (sym (step_n b q)) h.1) (each_rest is_fault_free (good Delivered) rs f))
run_same (good (Queue p r) ∷ rs) b q k h f =
    same_first b (queue b p r).bench k (Queue p r) (queue_call p r) rs refl refl refl (queue_same b q p h.0.station_in r) (queue_lines b q p h.0.station_in r)
    (run_same rs (queue b p r).bench (quiet_queue b q p r) (suc k)
    (subst (λ (i : ℕ). AllRead i rs) (sym (queue_n b q p h.0.station_in r)) h.1) (each_rest is_fault_free (good (Queue p r)) rs f))
run_same (good LostForAddressee ∷ rs) b q k h f = not_lost (good LostForAddressee) rs refl f
run_same (good LostForAll ∷ rs) b q k h f = not_lost (good LostForAll) rs refl f
run_same (good (Timer p) ∷ rs) b q k h f = not_lost (good (Timer p)) rs refl f
run_same (bad number ∷ rs) b q k h f = not_lost (bad number) rs refl f

-- ---- from the beginning

module _ (n limit : ℕ) (two : 2 ≤ n) (most : n ≤ 64) (low : 1 ≤ limit) (high : limit ≤ 15) where
  pub first_same : (rs : List Record) → AllRead n rs → every is_fault_free rs ≡ true → Same (ring_with n limit) 0 rs
  first_same rs h f =
      run_same rs (ring_with n limit) (quiet_start n limit two most low high) 0 (subst (λ (i : ℕ). AllRead i rs) (sym (ring_n n limit two most)) h) f
