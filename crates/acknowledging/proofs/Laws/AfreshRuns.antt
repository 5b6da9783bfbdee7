-- With every retry count at 0 a run gives the same, and in a fault-free run every count is 0. Assumes nothing.
use mathlib.Core.Path.{◌≡◌, refl, sym, ap, ◌∙◌}
use mathlib.Core.Bool.{Bool, false}
use mathlib.Core.List.{List, [], ◌∷◌, ◌++◌, map}
use Prim.Native.Nat.{ℕ, zero, suc}
use lib.Dec.{ltb, leb}
use lib.ListN.{set, replicate, get_or-map}
use Rattle.parts.specs.Choose.{pick}
use Rattle.parts.specs.Live.{seats}
use Rattle.station.specs.Stations.{answered}
use Rattle.station.specs.Heard.{frame_rule}
use Rattle.station.specs.Queue.{queue_rule}
use Rattle.parts.specs.declared.frame.Frame.{Frame}
use Rattle.parts.specs.Frames.{Dispatch}
use Rattle.std.specs.Prelude.{None, Some}
use Rattle.parts.specs.declared.request.Request.{Request}
use Rattle.station.specs.declared.station.Station.{Station}
use Rattle.station.specs.declared.station.Answer.{Answer}
use Rattle.bench.specs.Ring.{nobody, station_at, first_answer, start_at, start_down, empty_bench, ring_with}
use Rattle.bench.specs.Delivery.{handed, delivered, reply_of, deliver_to, others, step_on, step}
use Rattle.bench.specs.Calls.{queue_at, queue}
use Rattle.bench.specs.Rows.{rows_on}
use Rattle.bench.specs.Runs.{Event, stepped, queued, after_event, composed, final, frames}
use Rattle.bench.specs.declared.ring.Bench.{Bench}
use Rattle.bench.specs.declared.ring.Wire.{Wire}
use Rattle.bench.specs.declared.calls.Queued.{Queued}
use Rattle.bench.specs.declared.rows.Row.{Row}
use Rattle.acknowledging.specs.Missing.{fresh, afresh}
use Rattle.acknowledging.proofs.Laws.Afresh.{pick_through, fresh_answer, fresh_frame, fresh_queue, fresh_start}

-- ---- the stations

pub afresh_at : (b : Bench) (p : ℕ) → station_at (afresh b) p ≡ fresh (station_at b p)
unfolding afresh nobody
afresh_at b p = get_or-map fresh b.stations p nobody

fresh_set : (l : List Station) (p : ℕ) (s : Station) → set (map fresh l) p (fresh s) ≡ map fresh (set l p s)
fresh_set [] p s = refl
fresh_set (x ∷ l) zero s = refl
fresh_set (x ∷ l) (suc p) s = ap (λ (r : List Station). fresh x ∷ r) (fresh_set l p s)

-- ---- a delivery

module _ (n : ℕ) (hears : ℕ → Bool) (f : Frame) (from to : ℕ) where
  fresh_handed : (p : ℕ) (s : Station) → handed n hears f from to p (fresh s) ≡ fresh_answer (handed n hears f from to p s)
  unfolding handed
  fresh_handed p s =
      ap (λ (a : Answer). pick (pick (ltb p n) (hears p) false) a (answered (fresh s) 0)) (fresh_frame s f from to)
      ∙ sym (pick_through fresh_answer (pick (ltb p n) (hears p) false) (frame_rule s f from to) (answered s 0))

  fresh_delivered : (p : ℕ) (l : List Station) → delivered n hears f from to p (map fresh l) ≡ map fresh (delivered n hears f from to p l)
  unfolding delivered
  fresh_delivered p [] = refl
  fresh_delivered p (s ∷ ss) =
      let here : (handed n hears f from to p (fresh s)).station ≡ fresh (handed n hears f from to p s).station = ap (λ (a : Answer). a.station) (fresh_handed p s) in
      let rest : delivered n hears f from to (suc p) (map fresh ss) ≡ map fresh (delivered n hears f from to (suc p) ss) = fresh_delivered (suc p) ss in
      λ i. here i ∷ rest i

pub afresh_deliver : (hears : ℕ → Bool) (b : Bench) (f : Frame) (to : ℕ) → deliver_to hears (afresh b) f to ≡ afresh (deliver_to hears b f to)
unfolding deliver_to reply_of afresh
afresh_deliver hears b f to =
    let reply : (handed b.n hears f b.wire.from to to (station_at (afresh b) to)).sent ≡ (handed b.n hears f b.wire.from to to (station_at b to)).sent =
    ap (λ (s : Station). (handed b.n hears f b.wire.from to to s).sent) (afresh_at b to)
    ∙ ap (λ (a : Answer). a.sent) (fresh_handed b.n hears f b.wire.from to to (station_at b to)) in
    λ i. record {
      n = b.n;
      stations = fresh_delivered b.n hears f b.wire.from to 0 b.stations i;
      wire = record { from = to; sent = reply i };
    }

afresh_step_on : (b : Bench) (d : Dispatch) → step_on (afresh b) d ≡ afresh (step_on b d)
unfolding step_on afresh
afresh_step_on b None = refl
afresh_step_on b (Some (frame, to)) = afresh_deliver (others b.wire.from) b frame to

afresh_wire : (b : Bench) → (afresh b).wire ≡ b.wire
unfolding afresh
afresh_wire b = refl

pub afresh_step : (b : Bench) → step (afresh b) ≡ afresh (step b)
unfolding step
afresh_step b = ap (λ (w : Wire). step_on (afresh b) w.sent) (afresh_wire b) ∙ afresh_step_on b b.wire.sent

-- ---- a queue call

-- the station joins the message with its retry count at 0
afresh_joins : (b : Bench) (from : ℕ) (q : Request)
    → (queue_at (afresh b) from (queue_rule (station_at (afresh b) from) q)).bench ≡ afresh (queue_at b from (queue_rule (station_at b from) q)).bench
unfolding afresh
afresh_joins b from q =
    let joined : (queue_rule (station_at (afresh b) from) q).station ≡ fresh (queue_rule (station_at b from) q).station =
    ap (λ (s : Station). (queue_rule s q).station) (afresh_at b from) ∙ ap (λ (a : Answer). a.station) (fresh_queue (station_at b from) q) in
    let table : set (map fresh b.stations) from (queue_rule (station_at (afresh b) from) q).station ≡ map fresh (set b.stations from (queue_rule (station_at b from) q).station) =
    ap (set (map fresh b.stations) from) joined ∙ fresh_set b.stations from (queue_rule (station_at b from) q).station in
    λ i. record { n = b.n; stations = table i; wire = b.wire }

afresh_queue : (b : Bench) (from : ℕ) (q : Request) → (queue (afresh b) from q).bench ≡ afresh (queue b from q).bench
unfolding queue afresh
afresh_queue b from q =
    pick_through (λ (x : Queued). x.bench) _ _ _
    ∙ ap (λ (c : Bench). pick (leb (seats b.n) from) (afresh b) c) (afresh_joins b from q)
    ∙ sym (pick_through (λ (x : Queued). afresh x.bench) (leb (seats b.n) from) (record { bench = b; number = 15 }) (queue_at b from (queue_rule (station_at b from) q)))

-- ---- a run

afresh_event : (b : Bench) (e : Event) → after_event (afresh b) e ≡ afresh (after_event b e)
unfolding after_event
afresh_event b stepped = afresh_step b
afresh_event b (queued from q) = afresh_queue b from q

afresh_row : (b : Bench) (e : Event) → composed (afresh b) e ≡ composed b e
unfolding composed
afresh_row b stepped = ap (λ (c : Bench). rows_on c.wire) (afresh_step b) ∙ ap rows_on (afresh_wire (step b))
afresh_row b (queued from q) = refl

pub afresh_final : (b : Bench) (es : List Event) → final (afresh b) es ≡ afresh (final b es)
unfolding final
afresh_final b [] = refl
afresh_final b (e ∷ es) = ap (λ (c : Bench). final c es) (afresh_event b e) ∙ afresh_final (after_event b e) es

pub afresh_frames : (b : Bench) (es : List Event) → frames (afresh b) es ≡ frames b es
unfolding frames
afresh_frames b [] = refl
afresh_frames b (e ∷ es) =
    ap (λ (r : List Row). r ++ frames (after_event (afresh b) e) es) (afresh_row b e)
    ∙ ap (λ (c : Bench). composed b e ++ frames c es) (afresh_event b e)
    ∙ ap (λ (r : List Row). composed b e ++ r) (afresh_frames (after_event b e) es)

-- ---- a fault-free run

afresh_start : (limit : ℕ) (b : Bench) (p : ℕ) → start_at limit (afresh b) p ≡ afresh (start_at limit b p)
unfolding start_at afresh
afresh_start limit b p =
    let here : (first_answer b.n limit p).station ≡ fresh (first_answer b.n limit p).station = sym (fresh_start b.n limit p) in
    let table : set (map fresh b.stations) p (first_answer b.n limit p).station ≡ map fresh (set b.stations p (first_answer b.n limit p).station) =
    ap (set (map fresh b.stations) p) here ∙ fresh_set b.stations p (first_answer b.n limit p).station in
    λ i. record { n = b.n; stations = table i; wire = (start_at limit b p).wire }

afresh_starts : (limit k : ℕ) (b : Bench) → start_down limit k (afresh b) ≡ afresh (start_down limit k b)
unfolding start_down
afresh_starts limit zero b = refl
afresh_starts limit (suc k) b = ap (start_down limit k) (afresh_start limit b k) ∙ afresh_starts limit k (start_at limit b k)

fresh_nobodies : (k : ℕ) → map fresh (replicate k nobody) ≡ replicate k nobody
unfolding nobody
fresh_nobodies zero = refl
fresh_nobodies (suc k) = ap (λ (r : List Station). nobody ∷ r) (fresh_nobodies k)

afresh_empty : (n : ℕ) → afresh (empty_bench n) ≡ empty_bench n
unfolding afresh
afresh_empty n = λ i. record { n = n; stations = fresh_nobodies 64 i; wire = (empty_bench n).wire }

afresh_ring : (n limit : ℕ) → afresh (ring_with n limit) ≡ ring_with n limit
unfolding ring_with
afresh_ring n limit = sym (afresh_starts limit (seats n) (empty_bench n)) ∙ ap (start_down limit (seats n)) (afresh_empty n)

-- no timer has run
pub none_retried : (n limit : ℕ) (es : List Event) → afresh (final (ring_with n limit) es) ≡ final (ring_with n limit) es
none_retried n limit es = sym (afresh_final (ring_with n limit) es) ∙ ap (λ (b : Bench). final b es) (afresh_ring n limit)
