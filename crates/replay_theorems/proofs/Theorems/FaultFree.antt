-- "Demand 3 is read only for records 0 and 4": a capture of such records gives exactly the frames, refused numbers and stations of the bench's
-- steps and queue calls, on a ring of this size with this retry limit. Assumes nothing.
use mathlib.Core.Path.{◌≡◌, refl, ap, ◌∙◌}
use mathlib.Core.Bool.{Bool, true}
use mathlib.Core.List.{List, [], ◌∷◌, ◌++◌}
use Prim.Native.Nat.{ℕ, ◌≤◌}
use native.Mathlib.Omega.{arith}
use Rattle.parts.specs.Choose.{every}
use Rattle.bench.specs.Ring.{ring_with}
use Rattle.bench.specs.Runs.{Event as BenchEvent, stepped, queued as queue_call, after_event, composed, frames}
use Rattle.bench.specs.declared.ring.Bench.{Bench}
use Rattle.bench.specs.declared.rows.Row.{Row}
use Rattle.day.specs.Day.{begun_by, start_day}
use Rattle.replay.specs.Runs.{Record, Course, begun, records_of, asked_all}
use Rattle.replay_theorems.specs.Lines.{Line, struck, sent, queued, stopped, sent_lines, lines_text}
use Rattle.replay_theorems.specs.Read.{AllRead}
use Rattle.replay_theorems.specs.FaultFree.{is_fault_free, bench_events, event_lines, events_lines, frames_in, AsOnBench}
use Rattle.replay_theorems.proofs.Laws.Reading.{all_asked}
use Rattle.replay_theorems.proofs.Laws.SameKinds.{asked_free}
use Rattle.replay_theorems.proofs.Theorems.LinesPrinted.{lines_printed}
use Rattle.replay_theorems.proofs.Laws.SameRun.{first_same}

-- ---- the frames among the lines

frames_append : (ls ms : List Line) → frames_in (ls ++ ms) ≡ frames_in ls ++ frames_in ms
unfolding frames_in
frames_append [] ms = refl
frames_append (struck p q ∷ ls) ms = frames_append ls ms
frames_append (sent row ∷ ls) ms = ap (λ (rows : List Row). row ∷ rows) (frames_append ls ms)
frames_append (queued number ∷ ls) ms = frames_append ls ms
frames_append (stopped number index ∷ ls) ms = frames_append ls ms

frames_sent : (rows : List Row) → frames_in (sent_lines rows) ≡ rows
unfolding frames_in sent_lines
frames_sent [] = refl
frames_sent (r ∷ rs) = ap (λ (rows : List Row). r ∷ rows) (frames_sent rs)

frames_event : (b : Bench) (e : BenchEvent) → frames_in (event_lines b e) ≡ composed b e
unfolding event_lines composed frames_in
frames_event b stepped = frames_sent _
frames_event b (queue_call from q) = refl

frames_events : (b : Bench) (es : List BenchEvent) → frames_in (events_lines b es) ≡ frames b es
unfolding events_lines frames frames_in
frames_events b [] = refl
frames_events b (e ∷ es) =
    frames_append (event_lines b e) (events_lines (after_event b e) es)
    ∙ ap (λ (rows : List Row). rows ++ frames_in (events_lines (after_event b e) es)) (frames_event b e)
    ∙ ap (λ (rows : List Row). composed b e ++ rows) (frames_events (after_event b e) es)

-- ---- from the beginning

module _ (n limit : ℕ) (two : 2 ≤ n) (most : n ≤ 64) (low : 1 ≤ limit) (high : limit ≤ 15) where
  pub as_on_bench : (rs : List Record) → AllRead n rs → every is_fault_free rs ≡ true → AsOnBench n limit rs
  unfolding start_day
  as_on_bench rs h f =
      let s = first_same n limit two most low high rs h f in
      record {
        same_day = ap (λ (c : Course). c.day) s.course;
        not_stopped = ap (λ (c : Course). c.number) s.course;
        all_done = ap (λ (c : Course). c.done) s.course ∙ omega arith;
        same_lines = s.lines;
        same_frames = ap frames_in s.lines ∙ frames_events (ring_with n limit) (bench_events rs);
        same_text = lines_printed (begun (begun_by (ring_with n limit))) rs ∙ ap lines_text s.lines;
      }

  -- of a capture, whoever listens on which channel
  pub capture_as_on_bench : (hears : ℕ → ℕ → Bool) (s : List ℕ) → every is_fault_free (records_of n s) ≡ true → AsOnBench n limit (asked_all hears (records_of n s))
  capture_as_on_bench hears s f = as_on_bench (asked_all hears (records_of n s)) (all_asked n hears s) (asked_free hears (records_of n s) f)
