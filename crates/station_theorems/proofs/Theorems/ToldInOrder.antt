-- What a striking tells as given up, and in which order: the waiting messages to the struck station in order of acceptance, then the one in
-- flight; the others remain in order of acceptance. For a station whose send list fits. Assumes nothing.
use mathlib.Core.Path.{◌≡◌, refl, ap, subst, ◌∙◌}
use mathlib.Core.Bool.{Bool, true, false, not, ◌&&◌, and-false}
use mathlib.Core.List.{List, [], ◌++◌, append-nil}
use Prim.Native.Nat.{ℕ, ◌≤◌}
use lib.ListN.{length}
use borrow.Author.Tests.{eq-eqb, ne_eqb}
use Rattle.parts.specs.Moves.{move_of, runs}
use Rattle.parts.specs.Messages.{all, only}
use Rattle.parts.specs.Frames.{number_of, flight, failing_of}
use Rattle.station.specs.Stations.{state_of, awaited_of}
use Rattle.station.specs.Heard.{acknowledged, checks, frame_rule}
use Rattle.station.specs.Timer.{timer_rule}
use Rattle.parts.specs.declared.moves.Event.TheVariants.{Heard}
use Rattle.parts.specs.declared.list.Message.{Message}
use Rattle.std.specs.Prelude.{Option, None, Some}
use Rattle.parts.specs.declared.frame.Frame.{Frame}
use Rattle.station.specs.declared.station.Station.{Station}
use Rattle.station.specs.declared.station.Answer.{Answer}
use Rattle.parts.proofs.Laws.Choose.{pick_true, pick_false}
use Rattle.station.proofs.Laws.Heard.{frame_runs}
use Rattle.station.proofs.Laws.Timer.{timer_last}
use Rattle.station_theorems.specs.ToldInOrder.{in_flight, TimerTells, FrameTells}
use Rattle.station_theorems.specs.Leaves.{waits_to, flying, AnswerLeaves, another_than, stops}
use Rattle.station_theorems.specs.Striking.{FailingHeard, LastTimer}
use Rattle.station_theorems.specs.Leaving.{SendsFit}
use Rattle.station_theorems.proofs.Laws.Only.{only_nothing}
use Rattle.station_theorems.proofs.Laws.Leaving.{one_flies}
use Rattle.station_theorems.proofs.Laws.Landed.{heard_leaves, last_leaves}
use Rattle.station_theorems.proofs.Theorems.Leaving.{few}

pub at_most_one : (s : Station) → SendsFit s → length (in_flight s) ≤ 1
at_most_one s fit = one_flies (flight (awaited_of s)) (all s.sends) fit.places

-- ---- the last timer, to p

pub timer_tells : (s : Station) → SendsFit s → (p : ℕ) → LastTimer s p → TimerTells s p (timer_rule s)
timer_tells s fit p h =
    let k = last_leaves s fit.places (few s fit) p h.frame in
    rw (timer_last s h.frame p h.waits h.awaits h.last) (record { given_up = k.told; remaining = k.remaining })

-- ---- a heard frame: what leaves is said by its failing station and by whether it acknowledges

pub frame_leaves : (s : Station) → SendsFit s → (f : Frame) (from to : ℕ) → move_of (state_of s) Heard ≡ runs → checks s from to ≡ 0
    → AnswerLeaves s (another_than s.own (failing_of f)) (stops s (failing_of f) && not (acknowledged s from (number_of f))) (acknowledged s from (number_of f)) (frame_rule s f from to)
frame_leaves s fit f from to r c = rw (frame_runs s f from to r c) (heard_leaves s fit.places (few s fit) f from to)

none_waits : (s : Station) → only (waits_to s None) (all s.sends) ≡ []
none_waits s = only_nothing (waits_to s None) (λ m. refl) (all s.sends)

module _ (s : Station) (a : Answer) (w : Option ℕ) (flew landed : Bool) (k : AnswerLeaves s w flew landed a) where
  abbrev ms : List Message
  ms = all s.sends

  tells_both : (v : Option ℕ) → w ≡ v → flew ≡ true → all a.gone ≡ only (waits_to s v) ms ++ in_flight s
  tells_both v e t =
      k.told
      ∙ ap (λ (x : Option ℕ). only (waits_to s x) ms ++ only (λ (m : Message). flew && flying s m) ms) e
      ∙ ap (λ (b : Bool). only (waits_to s v) ms ++ only (λ (m : Message). b && flying s m) ms) t

  tells_waiting : (v : Option ℕ) → w ≡ v → flew ≡ false → all a.gone ≡ only (waits_to s v) ms
  tells_waiting v e t =
      k.told
      ∙ ap (λ (x : Option ℕ). only (waits_to s x) ms ++ only (λ (m : Message). flew && flying s m) ms) e
      ∙ ap (λ (l : List Message). only (waits_to s v) ms ++ l) (only_nothing _ (λ m. ap (λ (b : Bool). b && flying s m) t) ms)
      ∙ append-nil (only (waits_to s v) ms)

module _ (s : Station) (acked : Bool) (p : ℕ) (a : Answer) (k : AnswerLeaves s (another_than s.own (Some p)) (stops s (Some p) && not acked) acked a) where
  acked_flew : acked ≡ true → (stops s (Some p) && not acked) ≡ false
  acked_flew t = ap (λ (z : Bool). stops s (Some p) && not z) t ∙ and-false (stops s (Some p))

  another : (p ≡ s.own → ⊥) → another_than s.own (Some p) ≡ Some p
  another o = pick_false _ _ (ne_eqb p s.own o)

  not_another : p ≡ s.own → another_than s.own (Some p) ≡ None
  not_another o = pick_true _ _ (eq-eqb p s.own o)

  frame_told : FrameTells s acked p a
  frame_told =
      record {
        others_left = λ o l. tells_waiting s a _ _ _ k (Some p) (another o) (ap (λ (b : Bool). b && not acked) (pick_false _ _ (ne_eqb p s.own o) ∙ l));
        nobody_left = λ o l n.
            tells_both s a _ _ _ k (Some p) (another o)
            (ap (λ (b : Bool). b && not acked) (pick_false _ _ (ne_eqb p s.own o) ∙ l) ∙ ap not n);
        nobody_left_acknowledged = λ o t. tells_waiting s a _ _ _ k (Some p) (another o) (acked_flew t);
        itself = λ o n.
            tells_both s a _ _ _ k None (not_another o)
            (ap (λ (b : Bool). b && not acked) (pick_true _ _ (eq-eqb p s.own o)) ∙ ap not n)
            ∙ ap (λ (l : List Message). l ++ in_flight s) (none_waits s);
        itself_acknowledged = λ o t. tells_waiting s a _ _ _ k None (not_another o) (acked_flew t) ∙ none_waits s;
      }

pub frame_tells : (s : Station) → SendsFit s → (f : Frame) (from to p : ℕ) → FailingHeard s f from to p
    → FrameTells s (acknowledged s from (number_of f)) p (frame_rule s f from to)
frame_tells s fit f from to p h =
    frame_told s (acknowledged s from (number_of f)) p (frame_rule s f from to)
    (subst (λ (w : Option ℕ). AnswerLeaves s (another_than s.own w) (stops s w && not (acknowledged s from (number_of f))) (acknowledged s from (number_of f)) (frame_rule s f from to))
    h.failing_is (frame_leaves s fit f from to h.hears h.passed))

-- a frame without a failing station tells no message
pub frame_tells_none : (s : Station) → SendsFit s → (f : Frame) (from to : ℕ) → move_of (state_of s) Heard ≡ runs → checks s from to ≡ 0 → failing_of f ≡ None
    → all (frame_rule s f from to).gone ≡ []
frame_tells_none s fit f from to r c e =
    let k = frame_leaves s fit f from to r c in
    tells_waiting s (frame_rule s f from to) _ _ _ k None (ap (another_than s.own) e) (ap (λ (w : Option ℕ). stops s w && not (acknowledged s from (number_of f))) e)
    ∙ none_waits s
