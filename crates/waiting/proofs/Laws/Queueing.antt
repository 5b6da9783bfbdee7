-- On the bench a message that waits waits on at a queue call, and an accepted message waits from its acceptance on. Assumes nothing.
use mathlib.Core.Path.{◌≡◌, refl, sym, ap, subst}
use mathlib.Core.Bool.{Bool, true, false}
use Prim.Native.Nat.{ℕ, ◌<◌}
use native.Mathlib.Omega.{arith}
use lib.Dec.{leb, eqb}
use lib.Seq.{get_or-set_same, get_or-set_other}
use borrow.Author.Tests.{leb-false, eqb-true, eqb-false}
use Rattle.parts.specs.Choose.{pick}
use Rattle.parts.specs.Live.{seats}
use Rattle.parts.specs.Moves.{move_of, runs}
use Rattle.station.specs.Stations.{state_of}
use Rattle.station.specs.Queue.{new_message, queue_rule}
use Rattle.parts.specs.declared.moves.State.{State}
use Rattle.parts.specs.declared.moves.Event.TheVariants.{Queue}
use Rattle.parts.specs.declared.list.Message.{Message}
use Rattle.parts.specs.declared.frame.Frame.{Frame}
use Rattle.parts.specs.declared.request.Request.{Request}
use Rattle.station.specs.declared.station.Station.{Station}
use Rattle.bench.specs.Ring.{nobody, station_at}
use Rattle.bench.specs.Calls.{with_station, queue_at, queue}
use Rattle.bench.specs.declared.ring.Bench.{Bench}
use Rattle.bench.specs.declared.calls.Queued.{Queued}
use Rattle.bench.proofs.Laws.Passing.{seats_members}
use Rattle.bench_theorems.specs.Quiet.{Stands, sender, last_sender, at_rest, Quiet}
use Rattle.waiting.specs.Waiting.{Waits}
use Rattle.waiting.proofs.Laws.Staying.{WaitsAt, waits_there, there_waits}
use Rattle.waiting.proofs.Laws.Joining.{old_waits, new_waits}

-- a station that takes part runs its queue calls
takes_part : {from before : ℕ} {f : Frame} {to p : ℕ} {s : Station} → Stands from before f to p s → move_of (state_of s) Queue ≡ runs
takes_part (sender e w a) = ap (λ (st : State). move_of st Queue) w
takes_part (last_sender o e w g a k) = ap (λ (st : State). move_of st Queue) w
takes_part (at_rest o e i) = ap (λ (st : State). move_of st Queue) i

module _ {limit : ℕ} (b : Bench) (q : Quiet limit b) (from : ℕ) (r : Request) where
  -- what holds of the call outside the ring and inside it holds of it
  queue_either : (P : Queued → Type 0) → P (record { bench = b; number = 15 }) → (from < b.n → P (queue_at b from (queue_rule (station_at b from) r)))
      → P (queue b from r)
  unfolding queue pick
  queue_either P x y = go (leb (seats b.n) from) refl
    where
      go : (t : Bool) → leb (seats b.n) from ≡ t
          → P (pick {A = Queued} t (record { bench = b; number = 15 }) (queue_at b from (queue_rule (station_at b from) r)))
      go true e = x
      go false e = y (seats_members b.n from (leb-false (seats b.n) from e))

  pub queue_n : (queue b from r).bench.n ≡ b.n
  queue_n = queue_either (λ (x : Queued). x.bench.n ≡ b.n) refl (λ h. refl)

  here : from < b.n → (s : Station) → station_at (with_station b from s) from ≡ s
  here h s = get_or-set_same b.stations from s nobody (omega (arith, q.table, q.picture.most_members))

  pub waits_queue : (p : ℕ) → p < b.n → (m : Message) → Waits b p m → Waits (queue b from r).bench p m
  waits_queue p member m w = queue_either (λ (x : Queued). Waits x.bench p m) w (λ h. go h (eqb p from) refl)
    where
      s : Station
      s = (queue_rule (station_at b from) r).station

      go : from < b.n → (t : Bool) → eqb p from ≡ t → Waits (with_station b from s) p m
      go h true e =
          let same : p ≡ from = eqb-true p from e in
          subst (λ (i : ℕ). Waits (with_station b from s) i m) (sym same)
          (there_waits (with_station b from s) from m
          (subst (λ (x : Station). WaitsAt x m) (sym (here h s))
          (old_waits (station_at b from) (q.picture.members from h).whole r m
          (subst (λ (i : ℕ). WaitsAt (station_at b i) m) same (waits_there b p m w)))))
      go h false e =
          there_waits (with_station b from s) p m
          (subst (λ (x : Station). WaitsAt x m) (sym (get_or-set_other b.stations from p s nobody (eqb-false p from e))) (waits_there b p m w))

  -- the accepted message
  pub record Accepted : Type 0 where
    pub member : from < b.n
    pub waits : Waits (queue b from r).bench from (new_message (station_at b from) r)

  pub accepted_waits : (queue b from r).number ≡ 0 → Accepted
  accepted_waits z =
      let m : Message = new_message (station_at b from) r in
      let w = queue_either
      (λ (x : Queued). x.number ≡ 0 → (from < b.n) × Waits x.bench from m)
      (λ e. absurd (omega arith))
      (λ h e. (
        h,
        there_waits _ from m
            (subst (λ (x : Station). WaitsAt x m) (sym (here h _))
            (new_waits (station_at b from) (q.picture.members from h).whole r (takes_part (q.picture.turns from h)) e)),
      ))
      z in
      record { member = w.0; waits = w.1 }
