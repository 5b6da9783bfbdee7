-- Along a run on which a message stays on top: no more frames are composed before its own than the rank has, and its own is composed
-- once there are more steps than that. Assumes nothing.
use mathlib.Core.Path.{◌≡◌, sym, ap, subst, ◌∙◌}
use mathlib.Core.Bool.{Bool, true, false}
use mathlib.Core.List.{List, [], ◌∷◌, ◌++◌}
use Prim.Native.Nat.{ℕ, ◌+◌, ◌<◌}
use native.Mathlib.Omega.{arith}
use Rattle.parts.specs.declared.list.Message.{Message}
use Rattle.parts.specs.Frames.{Dispatch}
use Rattle.std.specs.Prelude.{Some}
use Rattle.parts.specs.declared.request.Request.{Request}
use Rattle.bench.specs.Delivery.{step}
use Rattle.bench.specs.Calls.{queue}
use Rattle.bench.specs.Rows.{kind_of, row_on}
use Rattle.bench.specs.Runs.{Event, stepped, queued, after_event}
use Rattle.bench.specs.declared.ring.Wire.{Wire}
use Rattle.bench.specs.declared.ring.Bench.{Bench}
use Rattle.bench.specs.declared.rows.Row.{Row}
use Rattle.bench_theorems.specs.Counting.{steps_in}
use Rattle.bench_theorems.proofs.Laws.Queueing.{quiet_queue, queue_wire}
use Rattle.waiting.specs.Waiting.{Spot, OnTop, Until, StaysOnTop, own, before, goes}
use Rattle.waiting.proofs.Laws.Own.{before_own, before_another, goes_own, goes_another}
use Rattle.waiting.proofs.Laws.Counting.{one_kind, Counts, counts_none, counts_more}
use Rattle.waiting.proofs.Laws.Queueing.{waits_queue, queue_n}
use Rattle.waiting.proofs.Laws.Stepping.{Holds, AheadOn, WaitsOn, Steps, goes_now, waits_on, next_step}

-- ---- a queue call

pub holds_queue : (n : ℕ) (x : Spot) (m : Message) (b : Bench) → Holds n x m b → (from : ℕ) (q : Request)
    → Holds n x m (queue b from q).bench
holds_queue n x m b h from q =
    record {
      limit = h.limit;
      quiet = quiet_queue b h.quiet from q;
      size = queue_n b h.quiet from q ∙ h.size;
      member = h.member;
      place = h.place;
      waits = waits_queue b h.quiet from q x.station (subst (λ (i : ℕ). x.station < i) (sym h.size) h.member) m h.waits;
    }

-- ---- on top, now and later

module _ (x : Spot) (priority : ℕ) (b : Bench) where
  pub top_now : (es : List Event) → StaysOnTop x priority b es → OnTop x priority b
  unfolding StaysOnTop
  top_now [] t = t
  top_now (stepped ∷ es) t = t.0
  top_now (queued from q ∷ es) t = t.0

  pub top_step : (es : List Event) → own x (step b).wire ≡ false → StaysOnTop x priority b (stepped ∷ es) → StaysOnTop x priority (step b) es
  unfolding StaysOnTop
  top_step es e t = subst (λ (o : Bool). Until o (StaysOnTop x priority (step b) es)) e t.1

  pub top_queue : (from : ℕ) (q : Request) (es : List Event) → StaysOnTop x priority b (queued from q ∷ es)
      → StaysOnTop x priority (queue b from q).bench es
  unfolding StaysOnTop after_event
  top_queue from q es t = t.1

-- ---- a run

-- what is composed before its own is within the rank, and its own is once there are more steps
pub record Runs (x : Spot) (b : Bench) (es : List Event) (short info : ℕ) : Type 0 where
  pub counts : Counts (before x b es) short info
  pub goes_then : short + info < steps_in es → goes x b es ≡ true

module _ (n : ℕ) (x : Spot) (m : Message) where
  stops : (b : Bench) (short info : ℕ) → Runs x b [] short info
  unfolding before steps_in
  stops b short info = record { counts = counts_none short info; goes_then = λ l. absurd (omega arith) }

  queues : (b : Bench) (from : ℕ) (q : Request) (es : List Event) (short info : ℕ) → Runs x (queue b from q).bench es short info
      → Runs x b (queued from q ∷ es) short info
  unfolding before goes steps_in after_event
  queues b from q es short info r = record { counts = r.counts; goes_then = r.goes_then }

  ends : (b : Bench) (es : List Event) (short info : ℕ) → own x (step b).wire ≡ true → Runs x b (stepped ∷ es) short info
  ends b es short info e =
      record {
        counts = subst (λ (rows : List Row). Counts rows short info) (sym (before_own x b es e)) (counts_none short info);
        goes_then = λ l. goes_own x b es e;
      }

  continues : (b : Bench) (es : List Event) (short info : ℕ) (w : WaitsOn n x m (step b) short info) → Runs x (step b) es w.short' w.info'
      → Runs x b (stepped ∷ es) short info
  unfolding steps_in
  continues b es short info w r =
      let rows_are : before x b (stepped ∷ es) ≡ row_on (step b).wire.from (Some (w.rank.frame, w.rank.to)) ++ before x (step b) es =
      before_another x b es w.not_own ∙ ap (λ (d : Dispatch). row_on (step b).wire.from d ++ before x (step b) es) w.rank.on_wire in
      record {
        counts =
            subst (λ (rows : List Row). Counts rows short info) (sym rows_are)
            (counts_more n (step b).wire.from w.rank.frame w.rank.to w.fits (before x (step b) es) short info w.short' w.info'
            w.fewer_short w.fewer_information r.counts);
        goes_then = λ l.
            goes_another x b es w.not_own
            ∙ r.goes_then (omega (arith, one_kind (kind_of w.rank.frame), w.fewer_short, w.fewer_information));
      }

  pub runs_so : (es : List Event) (b : Bench) → Holds n x m b → (short info : ℕ) → AheadOn n x.station m.priority b.wire short info
      → StaysOnTop x m.priority b es → Runs x b es short info
  runs_so [] b h short info a t = stops b short info
  runs_so (stepped ∷ es) b h short info a t =
      go (next_step n x m b h (top_now x m.priority b (stepped ∷ es) t) short info a) (runs_so es (step b))
    where
      go : Steps n x m (step b) short info
          → (Holds n x m (step b) → (k j : ℕ) → AheadOn n x.station m.priority (step b).wire k j → StaysOnTop x m.priority (step b) es → Runs x (step b) es k j)
          → Runs x b (stepped ∷ es) short info
      go (goes_now g) rest = ends b es short info g.is_own
      go (waits_on w) rest =
          continues b es short info w (rest w.holds w.short' w.info' w.rank (top_step x m.priority b es w.not_own t))
  runs_so (queued from q ∷ es) b h short info a t =
      queues b from q es short info
      (runs_so es (queue b from q).bench (holds_queue n x m b h from q) short info
      (subst (λ (w : Wire). AheadOn n x.station m.priority w short info) (sym (queue_wire b from q)) a)
      (top_queue x m.priority b from q es t))
