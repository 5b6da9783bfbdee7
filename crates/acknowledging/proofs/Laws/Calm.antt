-- In a fault-free run nobody waits for a frame that names a failing station. Assumes nothing.
use mathlib.Core.Path.{◌≡◌, refl, sym, ap, subst, ◌∙◌}
use mathlib.Core.Bool.{Bool, true, false}
use mathlib.Core.List.{List, [], ◌∷◌}
use Prim.Native.Nat.{ℕ, ◌<◌, ◌≤◌}
use native.Mathlib.Omega.{arith}
use lib.Dec.{leb, eqb}
use lib.Seq.{get_or-set_same, get_or-set_other}
use borrow.Author.Tests.{leb-false, eqb-true, eqb-false}
use Rattle.parts.specs.Choose.{pick}
use Rattle.parts.specs.Live.{seats}
use Rattle.parts.specs.Frames.{number_of, failing_of, Dispatch}
use Rattle.station.specs.Stations.{awaited_of}
use Rattle.station.specs.Heard.{acknowledged, acknowledge}
use Rattle.station.specs.Queue.{queue_rule}
use Rattle.std.specs.Prelude.{Option, None, Some}
use Rattle.parts.specs.declared.request.Request.{Request}
use Rattle.station.specs.declared.station.Turn.{Turn}
use Rattle.station.specs.declared.station.Station.{Station}
use Rattle.station.specs.declared.station.Answer.{Answer}
use Rattle.bench.specs.Ring.{nobody, station_at, ring_with}
use Rattle.bench.specs.Delivery.{deliver_to, deliver, step}
use Rattle.bench.specs.Calls.{queue_at, queue}
use Rattle.bench.specs.Runs.{Event, stepped, queued, after_event, final}
use Rattle.bench.specs.declared.ring.Bench.{Bench}
use Rattle.bench.specs.declared.calls.Queued.{Queued}
use Rattle.bench.proofs.Laws.Passing.{seats_members}
use Rattle.bench.proofs.Laws.StandsBy.{either}
use Rattle.bench_theorems.specs.Quiet.{Picture, Quiet}
use Rattle.bench_theorems.proofs.Laws.Hearing.{silent_is}
use Rattle.bench_theorems.proofs.Laws.Answers.{Role, sends, answers, overhears, role, nobody_failing, stands_waits, hears_at, answer_at, reply_at, new_sent}
use Rattle.bench_theorems.proofs.Laws.Delivering.{step_delivers, stays_there, hears_there}
use Rattle.bench_theorems.proofs.Laws.Keeping.{queue_keeps}
use Rattle.bench_theorems.proofs.Laws.Beginning.{ring_n, ring_at}
use Rattle.bench_theorems.proofs.Laws.Started.{starts_idle, begun}
use Rattle.bench_theorems.proofs.Laws.Ringing.{quiet_start}
use Rattle.bench_theorems.proofs.Theorems.ReachedQuiet.{quiet_event}

abbrev pub failing_in : Dispatch → Option ℕ
failing_in None = None
failing_in (Some (frame, to)) = failing_of frame

abbrev calm : Station → Type 0
calm s = failing_in (awaited_of s) ≡ None

abbrev pub Calm : Bench → Type 0
Calm b = (p : ℕ) → p < b.n → failing_in (awaited_of (station_at b p)) ≡ None

-- ---- a step

acknowledged_calm : (s : Station) (from k : ℕ) → calm s → calm (acknowledge s from k)
unfolding acknowledge
acknowledged_calm s from k h = either calm (acknowledged s from k) _ s refl h

module _ {limit : ℕ} (b : Bench) (q : Quiet limit b) (h : Calm b) where
  abbrev later : Bench
  later = deliver b q.frame q.to

  calm_at : (p : ℕ) → p < b.n → calm (station_at later p)
  calm_at p m = go (role b.wire.from q.to p)
    where
      w : Picture b.n limit (station_at b) b.wire.from q.frame q.to
      w = q.picture

      go : Role b.wire.from q.to p → calm (station_at later p)
      go (sends e) = subst (λ (i : ℕ). calm (station_at later i)) (sym e) (subst calm (sym (stays_there b q)) (h b.wire.from w.sender_member))
      go (answers e o) =
          subst (λ (i : ℕ). calm (station_at later i)) (sym e)
          (subst calm (sym (hears_there b q q.to w.addressee_member w.another))
          (ap failing_in ((answer_at w).awaited ∙ new_sent w) ∙ nobody_failing (reply_at w).phase))
      go (overhears x o) =
          subst calm (sym (hears_there b q p m o ∙ ap (λ (a : Answer). a.station) (silent_is (hears_at w p m o) (λ e. x (sym e)))))
          (acknowledged_calm (station_at b p) b.wire.from (number_of q.frame) (h p m))

  calm_delivered : Calm later
  unfolding deliver_to
  calm_delivered = calm_at

  calm_step : Calm (step b)
  calm_step = subst Calm (sym (step_delivers b q)) calm_delivered

-- ---- a queue call

calm_queue : {limit : ℕ} (b : Bench) → Quiet limit b → Calm b → (from : ℕ) (r : Request) → Calm (queue b from r).bench
unfolding queue pick
calm_queue b q h from r = go (leb (seats b.n) from) refl
  where
    a : Answer
    a = queue_rule (station_at b from) r

    go : (t : Bool) → leb (seats b.n) from ≡ t → Calm (pick {A = Queued} t (record { bench = b; number = 15 }) (queue_at b from a)).bench
    go true e = h
    go false e = λ p m. there p m (eqb p from) refl
      where
        inside : from < b.n
        inside = seats_members b.n from (leb-false (seats b.n) from e)

        there : (p : ℕ) → p < b.n → (t : Bool) → eqb p from ≡ t → calm (station_at (queue_at b from a).bench p)
        there p m true d =
            subst (λ (i : ℕ). calm (station_at (queue_at b from a).bench i)) (sym (eqb-true p from d))
            (subst calm (sym (get_or-set_same b.stations from a.station nobody (omega (arith, q.table, q.picture.most_members, inside))))
            (ap (λ (t : Turn). failing_in t.awaited) (queue_keeps (station_at b from) (q.picture.members from inside).whole r).same_turn ∙ h from inside))
        there p m false d = subst calm (sym (get_or-set_other b.stations from p a.station nobody (eqb-false p from d))) (h p m)

-- ---- a run

calm_event : {limit : ℕ} (b : Bench) → Quiet limit b → Calm b → (e : Event) → Calm (after_event b e)
unfolding after_event
calm_event b q h stepped = calm_step b q h
calm_event b q h (queued from r) = calm_queue b q h from r

calm_run : {limit : ℕ} (b : Bench) → Quiet limit b → Calm b → (es : List Event) → Calm (final b es)
unfolding final
calm_run b q h [] = h
calm_run b q h (e ∷ es) = calm_run (after_event b e) (quiet_event b q e) (calm_event b q h e) es

module _ (n limit : ℕ) (two : 2 ≤ n) (most : n ≤ 64) (low : 1 ≤ limit) (high : limit ≤ 15) where
  calm_start : Calm (ring_with n limit)
  calm_start p m = go (eqb p 0) refl
    where
      inside : p < n
      inside = omega (arith, ring_n n limit two most)

      go : (t : Bool) → eqb p 0 ≡ t → calm (station_at (ring_with n limit) p)
      go true e =
          subst calm (sym (ring_at n limit two most p inside))
          (ap failing_in (stands_waits (eqb-true p 0 e) (begun n limit two most low high p inside).stands).awaited)
      go false e = subst calm (sym (ring_at n limit two most p inside ∙ ap (λ (a : Answer). a.station) (starts_idle n limit two most p (eqb-false p 0 e)))) refl

  pub reached_calm : (es : List Event) → Calm (final (ring_with n limit) es)
  reached_calm es = calm_run (ring_with n limit) (quiet_start n limit two most low high) calm_start es
