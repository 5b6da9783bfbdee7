-- What a step does to the waiting messages: the addressee's lose the one that it sends, and nobody else's change. Assumes nothing.
use mathlib.Core.Path.{◌≡◌, refl, sym, ap, subst, ◌∙◌}
use Prim.Native.Nat.{ℕ, ◌<◌}
use Rattle.parts.specs.Messages.{all}
use Rattle.parts.specs.Frames.{number_of, flight, Dispatch}
use Rattle.std.specs.Prelude.{None}
use Rattle.station.specs.Stations.{awaited_of}
use Rattle.station.specs.Sight.{sight}
use Rattle.sent.specs.Round.{reply}
use Rattle.station.specs.Heard.{acknowledge, stored, frame_rule}
use Rattle.parts.specs.declared.frame.Frame.{Frame}
use Rattle.station.specs.declared.station.Station.{Station}
use Rattle.station.specs.declared.station.Answer.{Answer}
use Rattle.bench.specs.Ring.{station_at}
use Rattle.bench.specs.Delivery.{deliver, step}
use Rattle.bench.specs.declared.ring.Wire.{Wire}
use Rattle.bench.specs.declared.ring.Bench.{Bench}
use Rattle.bench_theorems.specs.Quiet.{Picture, Quiet}
use Rattle.bench_theorems.proofs.Laws.Heads.{rested_flight}
use Rattle.bench_theorems.proofs.Laws.Hearing.{stored_storing, silent_is, answer_is}
use Rattle.bench_theorems.proofs.Laws.Answers.{Role, sends, answers, overhears, role, hears_at, fresh, new_sent}
use Rattle.bench_theorems.proofs.Laws.Delivering.{step_delivers, stays_there, hears_there, step_wire}
use Rattle.waiting.proofs.Laws.RunWaiting.{resting, waiting, resting_all, acknowledged_waits}

-- ---- one station

-- with none in flight all of the list wait
all_waits : (s : Station) → flight (awaited_of s) ≡ None → all s.sends ≡ waiting s
unfolding waiting
all_waits s e = sym (resting_all (flight (awaited_of s)) e (all s.sends))

module _ {n limit : ℕ} {at : ℕ → Station} {from : ℕ} {f : Frame} {to : ℕ} (w : Picture n limit at from f to) where
  silent_waits : (p : ℕ) → p < n → (p ≡ from → ⊥) → (p ≡ to → ⊥) → waiting (frame_rule (at p) f from to).station ≡ waiting (at p)
  silent_waits p h o x =
      let l = hears_at w p h o in
      ap (λ (a : Answer). waiting a.station) (silent_is l (λ e. x (sym e))) ∙ acknowledged_waits l.listens

  answer_waits : waiting (frame_rule (at to) f from to).station ≡ resting (flight (frame_rule (at to) f from to).sent) (waiting (at to))
  unfolding waiting
  answer_waits =
      let h = hears_at w to w.addressee_member w.another in
      let t : Station = acknowledge (at to) from (number_of f) in
      let listed : all (stored t from f).station.sends ≡ waiting (at to) =
      ap all (stored_storing t from f).same_sends ∙ all_waits t (rested_flight h.listens h.member.whole) ∙ acknowledged_waits h.listens in
      subst (λ (a : Answer). waiting a.station ≡ resting (flight a.sent) (waiting (at to))) (sym (answer_is h refl (fresh w)))
      (ap (resting (flight (reply (sight (stored t from f).station) f))) listed)

-- ---- the bench

module _ {limit : ℕ} (b : Bench) (q : Quiet limit b) where
  pub others_wait : (p : ℕ) → p < b.n → (p ≡ q.to → ⊥) → waiting (station_at (step b) p) ≡ waiting (station_at b p)
  others_wait p h x = ap (λ (c : Bench). waiting (station_at c p)) (step_delivers b q) ∙ go (role b.wire.from q.to p)
    where
      go : Role b.wire.from q.to p → waiting (station_at (deliver b q.frame q.to) p) ≡ waiting (station_at b p)
      go (sends e) =
          ap (λ (i : ℕ). waiting (station_at (deliver b q.frame q.to) i)) e
          ∙ ap waiting (stays_there b q)
          ∙ ap (λ (i : ℕ). waiting (station_at b i)) (sym e)
      go (answers e o) = absurd (x e)
      go (overhears y o) = ap waiting (hears_there b q p h o) ∙ silent_waits q.picture p h o x

  pub addressee_waits : waiting (station_at (step b) q.to) ≡ resting (flight (step b).wire.sent) (waiting (station_at b q.to))
  addressee_waits =
      ap (λ (c : Bench). waiting (station_at c q.to)) (step_delivers b q)
      ∙ ap waiting (hears_there b q q.to q.picture.addressee_member q.picture.another)
      ∙ answer_waits q.picture
      ∙ ap (λ (d : Dispatch). resting (flight d) (waiting (station_at b q.to))) (new_sent q.picture ∙ sym (ap (λ (v : Wire). v.sent) (step_wire b q)))
