-- A message that waits stays in its list, and waits on, at every step that does not compose its own frame: only the message in flight
-- leaves, at its acknowledgement. Assumes nothing.
use mathlib.Core.Path.{◌≡◌, sym, ap, subst, ◌∙◌}
use mathlib.Core.Bool.{true, false, false≢true}
use mathlib.Core.List.Memᴰ
use mathlib.Core.List.{Memᴰ}
use mathlib.Core.Logic.{◌⊎◌, inl, inr}
use Prim.Native.Nat.{ℕ, ◌<◌}
use Rattle.parts.specs.Frames.{flight, flight_in, Dispatch}
use Rattle.std.specs.Prelude.{Option, None}
use Rattle.parts.specs.Messages.{all, none, flies}
use Rattle.parts.specs.Moves.{is_waiting}
use Rattle.station.specs.Stations.{state_of, awaited_of}
use Rattle.station.specs.Heard.{frame_rule}
use Rattle.parts.specs.declared.list.Message.{Message}
use Rattle.parts.specs.declared.list.Messages.{Messages}
use Rattle.parts.specs.declared.frame.Frame.{Frame}
use Rattle.station.specs.declared.station.Station.{Station}
use Rattle.station.specs.declared.station.Answer.{Answer}
use Rattle.station_theorems.specs.Leaves.{flying}
use Rattle.station_theorems.specs.Shaped.{WholeStation}
use Rattle.station_theorems.specs.Leaving.{Acknowledged}
use Rattle.station_theorems.proofs.Laws.Based.{idle_flight}
use Rattle.station_theorems.proofs.Laws.Sound.{whole_sound}
use Rattle.station_theorems.proofs.Theorems.Leaving.{whole_fits, frame_leaves_only}
use Rattle.bench.specs.Ring.{station_at}
use Rattle.bench.specs.Delivery.{deliver, step}
use Rattle.bench.specs.declared.ring.Bench.{Bench}
use Rattle.bench_theorems.specs.Quiet.{Quiet}
use Rattle.bench_theorems.proofs.Laws.Answers.{Role, sends, answers, overhears, role, silent_at, answer_at, new_sent}
use Rattle.bench_theorems.proofs.Laws.Delivering.{step_delivers, stays_there, hears_there, reply_in}
use Rattle.waiting.specs.Waiting.{Waits}

-- ---- a station

-- the same of a station
pub record WaitsAt (s : Station) (m : Message) : Type 0 where
  pub listed : Memᴰ m (all s.sends)
  pub rests : flies (flight (awaited_of s)) m ≡ false

pub waits_there : (b : Bench) (p : ℕ) (m : Message) → Waits b p m → WaitsAt (station_at b p) m
waits_there b p m w = record { listed = w.listed; rests = w.rests }

pub there_waits : (b : Bench) (p : ℕ) (m : Message) → WaitsAt (station_at b p) m → Waits b p m
there_waits b p m w = record { listed = w.listed; rests = w.rests }

-- where nothing is given up, a message that waits stays in the list
heard_keeps : (s : Station) → WholeStation s → (f : Frame) (from to : ℕ) → (frame_rule s f from to).gone ≡ none → (m : Message) → WaitsAt s m
    → Memᴰ m (all (frame_rule s f from to).station.sends)
heard_keeps s whole f from to g m w = go ((frame_leaves_only s (whole_fits s whole.shaped whole.is_whole) f from to).stays_or_told m w.listed)
  where
    a : Answer
    a = frame_rule s f from to

    go : Memᴰ m (all a.station.sends) ⊎ (Memᴰ m (all a.gone) ⊎ (Acknowledged s f from to × (flying s m ≡ true))) → Memᴰ m (all a.station.sends)
    go (inl h) = h
    go (inr (inl h)) = absurd (Memᴰ.not-nil (subst (λ (l : Messages). Memᴰ m (all l)) g h))
    go (inr (inr h)) = absurd (false≢true (sym w.rests ∙ h.1))

-- ---- a step

module _ {limit : ℕ} (b : Bench) (q : Quiet limit b) (p : ℕ) (member : p < b.n) (m : Message) (w : Waits b p m)
    (not_sent : q.to ≡ p → flight_in (reply_in b q).frame ≡ None)
  where
    whole : WholeStation (station_at b p)
    whole = (q.picture.members p member).whole

    -- the addressee has sent another frame
    at_addressee : p ≡ q.to → (p ≡ b.wire.from → ⊥) → WaitsAt (frame_rule (station_at b p) q.frame b.wire.from q.to).station m
    at_addressee e o =
        let a = answer_at q.picture in
        record {
          listed =
              heard_keeps (station_at b p) whole q.frame b.wire.from q.to
              (ap (λ (i : ℕ). (frame_rule (station_at b i) q.frame b.wire.from q.to).gone) e ∙ a.none_gone) m (waits_there b p m w);
          rests =
              ap (λ (d : Dispatch). flies (flight d) m)
              (ap (λ (i : ℕ). awaited_of (frame_rule (station_at b i) q.frame b.wire.from q.to).station) e ∙ a.awaited ∙ new_sent q.picture)
              ∙ ap (λ (f : Option ℕ). flies f m) (not_sent (sym e));
        }

    -- everybody else has sent nothing
    elsewhere : (p ≡ q.to → ⊥) → (p ≡ b.wire.from → ⊥) → WaitsAt (frame_rule (station_at b p) q.frame b.wire.from q.to).station m
    elsewhere x o =
        let a = silent_at q.picture p member o x in
        let t : Station = (frame_rule (station_at b p) q.frame b.wire.from q.to).station in
        record {
          listed = heard_keeps (station_at b p) whole q.frame b.wire.from q.to a.none_gone m (waits_there b p m w);
          rests =
              ap (λ (f : Option ℕ). flies f m)
              (idle_flight (state_of t) t.n t.own t.sends (awaited_of t) (ap is_waiting a.at_rest) (whole_sound t a.member.whole).awaited);
        }

    stays : WaitsAt (station_at (deliver b q.frame q.to) p) m
    stays = go (role b.wire.from q.to p)
      where
        go : Role b.wire.from q.to p → WaitsAt (station_at (deliver b q.frame q.to) p) m
        go (sends e) =
            subst (λ (s : Station). WaitsAt s m)
            (sym (ap (λ (i : ℕ). station_at (deliver b q.frame q.to) i) e ∙ stays_there b q ∙ ap (station_at b) (sym e))) (waits_there b p m w)
        go (answers e o) = subst (λ (s : Station). WaitsAt s m) (sym (hears_there b q p member o)) (at_addressee e o)
        go (overhears x o) = subst (λ (s : Station). WaitsAt s m) (sym (hears_there b q p member o)) (elsewhere x o)

    pub waits_step : Waits (step b) p m
    waits_step = there_waits (step b) p m (subst (λ (c : Bench). WaitsAt (station_at c p) m) (sym (step_delivers b q)) stays)
