-- No call of a fault-free run is refused: every start gives 0; every station that hears the frame on the wire gives 0; and a queue
-- call gives the number that its own rule gives with everybody live, or 15 for a FROM outside the ring. Assumes nothing.
use mathlib.Core.Path.{◌≡◌, refl, sym, ap, subst, ◌∙◌}
use mathlib.Core.Bool.{Bool, true, false}
use mathlib.Core.List.{List}
use Prim.Native.Nat.{ℕ, ◌<◌, ◌≤◌}
use native.Mathlib.Omega.{arith}
use lib.Dec.{leb, eqb}
use borrow.Author.Tests.{leb-false, eqb-true}
use Rattle.parts.specs.Choose.{pick}
use Rattle.parts.specs.Moves.{move_of, runs}
use Rattle.parts.specs.Live.{live_at, seats}
use Rattle.station.specs.Stations.{state_of, made, answered, unless}
use Rattle.station.specs.Start.{start_rule}
use Rattle.station.specs.Heard.{frame_rule}
use Rattle.station.specs.Queue.{accepted, queue_number, queue_rule}
use Rattle.parts.specs.Refusals.{queue_refusal}
use Rattle.parts.specs.declared.moves.State.{State}
use Rattle.parts.specs.declared.moves.Event.TheVariants.{Queue}
use Rattle.parts.specs.declared.live.Live.{Live}
use Rattle.parts.specs.declared.frame.Frame.{Frame}
use Rattle.parts.specs.declared.request.Request.{Request}
use Rattle.station.specs.declared.station.Station.{Station}
use Rattle.station.specs.declared.station.Answer.{Answer}
use Rattle.station.proofs.Laws.Moved.{moved_runs}
use Rattle.bench.specs.Ring.{station_at, ring_with}
use Rattle.bench.specs.Runs.{Event, final}
use Rattle.bench.specs.declared.ring.Bench.{Bench}
use Rattle.bench.specs.declared.calls.Queued.{Queued}
use Rattle.bench.proofs.Laws.Calls.{queue_outside, queue_inside}
use Rattle.bench_theorems.specs.NoneRefused.{NoneRefused, OwnNumber}
use Rattle.bench_theorems.specs.Quiet.{Member, Stands, sender, last_sender, at_rest, Picture, Quiet}
use Rattle.bench_theorems.proofs.Laws.FullSet.{seats_most, full_live}
use Rattle.bench_theorems.proofs.Laws.Answers.{Role, sends, answers, overhears, role, silent_at, answer_at}
use Rattle.bench_theorems.proofs.Laws.Started.{begun}
use Rattle.bench_theorems.proofs.Theorems.ReachedQuiet.{reached_quiet, reached_n}

-- ---- frames

heard_number : {n limit : ℕ} {at : ℕ → Station} {from : ℕ} {f : Frame} {to : ℕ} → Picture n limit at from f to → (p : ℕ) → p < n → (p ≡ from → ⊥)
    → (frame_rule (at p) f from to).number ≡ 0
heard_number {n} {at} {from} {f} {to} w p h o = go (role from to p)
  where
    go : Role from to p → (frame_rule (at p) f from to).number ≡ 0
    go (sends e) = absurd (o e)
    go (answers e x) = ap (λ (i : ℕ). (frame_rule (at i) f from to).number) e ∙ (answer_at w).number
    go (overhears x y) = (silent_at w p h o x).number

pub none_refused : (n limit : ℕ) → 2 ≤ n → n ≤ 64 → 1 ≤ limit → limit ≤ 15 → (es : List Event) → NoneRefused n (final (ring_with n limit) es)
none_refused n limit two most low high es =
    let b : Bench = final (ring_with n limit) es in
    let q = reached_quiet n limit two most low high es in
    record {
      frame = q.frame;
      to = q.to;
      on_wire = q.on_wire;
      heard = λ p h o. heard_number q.picture p (omega (arith, reached_n n limit two most low high es)) o;
    }

-- ---- starts

pub no_start_refused : (n limit : ℕ) → 2 ≤ n → n ≤ 64 → 1 ≤ limit → limit ≤ 15 → (p : ℕ) → p < n → (start_rule (made n limit p)).number ≡ 0
no_start_refused n limit two most low high p h = (begun n limit two most low high p h).number

-- ---- queue calls

unless_number : (s : Station) (k : ℕ) (a : Answer) → a.number ≡ 0 → (unless s k a).number ≡ k
unfolding unless pick
unless_number s k a z = go (eqb k 0) refl
  where
    go : (t : Bool) → eqb k 0 ≡ t → (pick t a (answered s k)).number ≡ k
    go true e = z ∙ sym (eqb-true k 0 e)
    go false e = refl

-- a station that takes part runs its queue calls
pub queues : {from before : ℕ} {f : Frame} {to p : ℕ} {s : Station} → Stands from before f to p s → move_of (state_of s) Queue ≡ runs
queues (sender e w a) = ap (λ (st : State). move_of st Queue) w
queues (last_sender o e w g a k) = ap (λ (st : State). move_of st Queue) w
queues (at_rest o e i) = ap (λ (st : State). move_of st Queue) i

queue_number_lem : (s : Station) (q : Request) → move_of (state_of s) Queue ≡ runs
    → (queue_rule s q).number ≡ queue_number s q
unfolding queue_rule accepted
queue_number_lem s q r =
    ap (λ (a : Answer). a.number) (moved_runs s Queue _ refl r) ∙ unless_number s (queue_number s q) (accepted s q) refl

-- no destination of the ring is struck out
all_live : (n own : ℕ) (alive : Bool) (len : ℕ) (r : Request) → (r.to < n → alive ≡ true)
    → queue_refusal n own alive len r ≡ queue_refusal n own true len r
unfolding queue_refusal
all_live n own alive len r w = go (leb n r.to) refl
  where
    go : (t : Bool) → leb n r.to ≡ t → queue_refusal n own alive len r ≡ queue_refusal n own true len r
    go true e = rw e
    go false e = rw (w (leb-false n r.to e))

member_number : {limit : ℕ} (n p : ℕ) (s : Station) → n ≤ 64 → Member n limit p s → (r : Request)
    → queue_number s r ≡ queue_refusal n p true s.sends.len r
member_number n p s most m r =
    ap (λ (i : ℕ). queue_refusal i s.own (live_at s.live r.to) s.sends.len r) m.same_n
    ∙ ap (λ (i : ℕ). queue_refusal n i (live_at s.live r.to) s.sends.len r) m.own
    ∙ all_live n p (live_at s.live r.to) s.sends.len r
    (λ h. ap (λ (l : Live). live_at l r.to) m.live ∙ full_live n r.to most h)

quiet_number : {limit : ℕ} (b : Bench) → Quiet limit b → (from : ℕ) (r : Request) → OwnNumber b.n b from r
quiet_number b q from r =
    let seats_are : b.n ≡ seats b.n = sym (seats_most b.n q.picture.most_members) in
    record {
      outside = λ h. sym (ap (λ (x : Queued). x.number) (queue_outside b b.n from r seats_are h));
      inside = λ h.
          sym (ap (λ (x : Queued). x.number) (queue_inside b b.n from r seats_are (station_at b from) (queue_rule (station_at b from) r) h refl refl))
          ∙ queue_number_lem (station_at b from) r (queues (q.picture.turns from h))
          ∙ member_number b.n from (station_at b from) q.picture.most_members (q.picture.members from h) r;
    }

pub queue_numbers : (n limit : ℕ) → 2 ≤ n → n ≤ 64 → 1 ≤ limit → limit ≤ 15 → (es : List Event) (from : ℕ) (r : Request)
    → OwnNumber n (final (ring_with n limit) es) from r
queue_numbers n limit two most low high es from r =
    subst (λ (k : ℕ). OwnNumber k (final (ring_with n limit) es) from r) (reached_n n limit two most low high es)
    (quiet_number (final (ring_with n limit) es) (reached_quiet n limit two most low high es) from r)
