-- Where both rules of acknowledgement agree: at a member of a quiet ring, and so in every step of one. Assumes nothing.
use mathlib.Core.Path.{◌≡◌, refl, sym, ap, ◌∙◌}
use mathlib.Core.Bool.{Bool, true, false, not}
use mathlib.Core.List.{List, [], ◌∷◌}
use Prim.Native.Nat.{ℕ, zero, suc, ◌+◌, ◌<◌}
use native.Mathlib.Omega.{arith}
use lib.Dec.{ltb, eqb}
use lib.ListN.{length, get_or}
use borrow.Author.Tests.{ltb-true, eq-eqb, eqb-false}
use Rattle.parts.specs.Choose.{pick}
use Rattle.parts.specs.Moves.{is_waiting}
use Rattle.parts.specs.Frames.{number_of, failing_of, next, Dispatch}
use Rattle.station.specs.Stations.{state_of, answered, moved, unless, quiet}
use Rattle.station.specs.Heard.{landed, acknowledge, failed, respond, checks, heard, frame_rule}
use Rattle.parts.specs.declared.moves.State.TheVariants.{Idle}
use Rattle.parts.specs.declared.moves.Event.TheVariants.{Heard}
use Rattle.parts.specs.declared.frame.Frame.{Frame}
use Rattle.std.specs.Prelude.{Some}
use Rattle.station.specs.declared.station.Station.{Station}
use Rattle.parts.proofs.Laws.Ahead.{next_ahead}
use Rattle.parts.proofs.Laws.Choose.{pick_true, pick_false}
use Rattle.bench.specs.Ring.{nobody, station_at}
use Rattle.bench.specs.Delivery.{others, handed, delivered, reply_of, deliver_to, step_on, step}
use Rattle.bench.specs.declared.ring.Bench.{Bench}
use Rattle.bench_theorems.specs.Quiet.{Stands, sender, last_sender, at_rest, Quiet}
use Rattle.bench_theorems.proofs.Laws.Listening.{ahead_acknowledges, acknowledged_by, idle_stays}
use Rattle.acknowledging.specs.Before.{acknowledges_before, acknowledged_before, acknowledge_before, heard_before, frame_rule_before, handed_before, delivered_before, step_on_before, step_before}

-- ---- a station

-- its addressee's frame with the number after its own acknowledges by the rule as it was
before_by : (s : Station) (from k : ℕ) (g : Frame) → is_waiting (state_of s) ≡ true → s.turn.awaited ≡ Some (g, from) → next (number_of g) ≡ k
    → acknowledge_before s from k ≡ quiet (landed s) Idle
unfolding acknowledge_before acknowledged_before acknowledges_before
before_by s from k g w a e =
    pick_true _ _
    (pick_true _ _ w
    ∙ ap (λ (d : Dispatch). acknowledges_before d from k) a
    ∙ pick_true _ _ (eq-eqb from from refl)
    ∙ eq-eqb k (next (number_of g)) (sym e))

before_idle : (s : Station) (from k : ℕ) → is_waiting (state_of s) ≡ false → acknowledge_before s from k ≡ s
unfolding acknowledge_before acknowledged_before
before_idle s from k w = pick_false _ _ (pick_false _ _ w)

same_acknowledge : {from before : ℕ} {f : Frame} {to p : ℕ} (s : Station) → (p ≡ from → ⊥) → Stands from before f to p s
    → acknowledge_before s from (number_of f) ≡ acknowledge s from (number_of f)
same_acknowledge s o (sender e w a) = absurd (o e)
same_acknowledge {from} {f = f} s o (last_sender x e w g a k) =
    before_by s from (number_of f) g (ap is_waiting w) a k
    ∙ sym (acknowledged_by s from (number_of f) (ahead_acknowledges s from (number_of f) g from w a ∙ next_ahead (number_of g) (number_of f) k))
same_acknowledge {from} {f = f} s o (at_rest x y i) = before_idle s from (number_of f) (ap is_waiting i) ∙ sym (idle_stays s from (number_of f) i)

same_rule : (s : Station) (f : Frame) (from to : ℕ) → acknowledge_before s from (number_of f) ≡ acknowledge s from (number_of f)
    → frame_rule_before s f from to ≡ frame_rule s f from to
unfolding frame_rule_before frame_rule heard_before heard
same_rule s f from to e =
    ap (λ (t : Station). moved s Heard (unless s (checks s from to) (respond (failed t (failing_of f)) from to f))) e

-- ---- a delivery

module _ (n : ℕ) (f : Frame) (from to : ℕ) where
  -- the station s at p, where it hears the frame, is acknowledged by both rules or by none
  abbrev Agrees : ℕ → Station → Type 0
  Agrees p s = p < n → (p ≡ from → ⊥) → acknowledge_before s from (number_of f) ≡ acknowledge s from (number_of f)

  same_handed : (p : ℕ) (s : Station) → Agrees p s → handed_before n f from to p s ≡ handed n (others from) f from to p s
  unfolding handed_before handed pick
  same_handed p s h = go (ltb p n) refl (eqb p from) refl
    where
      go : (t : Bool) → ltb p n ≡ t → (u : Bool) → eqb p from ≡ u
          → pick (pick t (not u) false) (frame_rule_before s f from to) (answered s 0) ≡ pick (pick t (not u) false) (frame_rule s f from to) (answered s 0)
      go true e true d = refl
      go true e false d = same_rule s f from to (h (ltb-true p n e) (eqb-false p from d))
      go false e u d = refl

  same_delivered : (p : ℕ) (l : List Station) → ((i : ℕ) → i < length l → Agrees (p + i) (get_or l i nobody))
      → delivered_before n f from to p l ≡ delivered n (others from) f from to p l
  unfolding delivered_before delivered
  same_delivered p [] h = refl
  same_delivered p (s ∷ ss) h =
      let here : handed_before n f from to p s ≡ handed n (others from) f from to p s = same_handed p s (λ m o. h zero (omega arith) (omega arith) (λ e. o (omega arith))) in
      let rest : delivered_before n f from to (suc p) ss ≡ delivered n (others from) f from to (suc p) ss =
      same_delivered (suc p) ss (λ i m x o. h (suc i) (omega arith) (omega arith) (λ e. o (omega arith))) in
      λ i. (here i).station ∷ rest i

-- ---- a step of a quiet bench

pub same_step : {limit : ℕ} (b : Bench) → Quiet limit b → step_before b ≡ step b
unfolding step_before step step_on_before step_on deliver_to reply_of
same_step b q =
    ap (step_on_before b) q.on_wire
    ∙ (λ i. record {
      n = b.n;
      stations = same_delivered b.n q.frame b.wire.from q.to 0 b.stations (λ j m x o. agrees j (omega arith) (λ e. o (omega arith))) i;
      wire = record { from = q.to; sent = (same_handed b.n q.frame b.wire.from q.to q.to (station_at b q.to) (agrees q.to) i).sent };
    })
    ∙ ap (step_on b) (sym q.on_wire)
  where
    agrees : (p : ℕ) → Agrees b.n q.frame b.wire.from q.to p (station_at b p)
    agrees p m o = same_acknowledge (station_at b p) o (q.picture.turns p m)
