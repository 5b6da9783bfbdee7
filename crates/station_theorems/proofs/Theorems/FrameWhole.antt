-- A heard frame that is fit keeps a whole station whole. Assumes nothing.
use mathlib.Core.Path.{◌≡◌, refl, sym, ◌∙◌}
use mathlib.Core.Bool.{Bool, true, false, not}
use mathlib.Core.List.{List, [], ◌∷◌}
use Prim.Native.Nat.{ℕ, ◌<◌}
use native.Mathlib.Omega.{arith}
use lib.Dec.{eqb, leb}
use borrow.Author.Tests.{leb-false, eqb-false}
use Rattle.codec.proofs.Laws.Order.{none_holds}
use Rattle.parts.specs.Choose.{pick}
use Rattle.parts.specs.Moves.{move_of, runs}
use Rattle.parts.specs.Live.{live_at}
use Rattle.parts.specs.Frames.{number_of, failing_of, fit}
use Rattle.station.specs.Strike.{Struck}
use Rattle.station.specs.Stations.{state_of}
use Rattle.station.specs.Heard.{acknowledge, failed, nothing_more, stored, handle, silent, respond, heard, frame_rule}
use Rattle.parts.specs.Refusals.{heard_refusal}
use Rattle.parts.specs.declared.moves.State.TheVariants.{Idle}
use Rattle.parts.specs.declared.moves.Event.TheVariants.{Heard}
use Rattle.parts.specs.declared.frame.Frame.{Frame}
use Rattle.station.specs.declared.station.Station.{Station}
use Rattle.station_theorems.specs.Shaped.{WholeStation}
use Rattle.station_theorems.proofs.Laws.Sound.{Sound, whole_sound, whole_station, moved_sound, unless_sound}
use Rattle.station_theorems.proofs.Laws.States.{idle_is}
use Rattle.station_theorems.proofs.Laws.Acknowledged.{Onward, acknowledge_hearing}
use Rattle.station_theorems.proofs.Laws.Failed.{failed_onward}
use Rattle.station_theorems.proofs.Laws.Handled.{idle_on, idle_company, idle_based, stored_ready, handle_sound}

respond_sound : (s : Station) (k : Struck) (from to : ℕ) (f : Frame) → Onward s k.station → from < s.n → (from ≡ s.own → ⊥) → fit s.n f ≡ true
    → Sound (respond k from to f).station
unfolding respond pick
respond_sound s k from to f h low o e = go (nothing_more k.station to (number_of f)) refl
  where
    go : (t : Bool) → nothing_more k.station to (number_of f) ≡ t → Sound (pick t (silent k) (handle k (stored k.station from f) f)).station
    go true t = h.kept
    go false t =
        let i : state_of k.station ≡ Idle = idle_is _ (idle_on k.station to (number_of f) t) in
        let fits : fit k.station.n f ≡ true = rw h.same_n e in
        handle_sound k.station k (stored k.station from f) f
        (stored_ready k.station (idle_based k.station h.kept i) (idle_company _ _ i h.kept.company) from (rw h.same_n low) (λ q. o (q ∙ h.same_own)) f fits)
        fits

-- ---- the five in order

onward_on : (s t u : Station) → s.n ≡ t.n → s.own ≡ t.own → Onward t u → Onward s u
onward_on s t u a b h = record { kept = h.kept; same_n = h.same_n ∙ sym a; same_own = h.same_own ∙ sym b }

heard_sound : (s : Station) (f : Frame) (from to : ℕ) → Sound s → move_of (state_of s) Heard ≡ runs → from < s.n → (from ≡ s.own → ⊥) → fit s.n f ≡ true
    → Sound (heard s f from to).station
unfolding heard
heard_sound s f from to k m low o e =
    let a = acknowledge_hearing s from (number_of f) k m in
    let g = failed_onward (acknowledge s from (number_of f)) (failing_of f) a.onward.kept a.hears in
    respond_sound s (failed (acknowledge s from (number_of f)) (failing_of f)) from to f
    (onward_on s (acknowledge s from (number_of f)) _ (sym a.onward.same_n) (sym a.onward.same_own) g) low o e

-- the checks: the sender is another member
sender : (n own : ℕ) (alive : Bool) (from to : ℕ) → heard_refusal n own alive from to ≡ 0 → (from < n) × (from ≡ own → ⊥)
unfolding heard_refusal
sender n own alive from to e =
    let ts : List (Bool × ℕ) = (leb n from, 13) ∷ (leb n to, 13) ∷ (eqb from to, 13) ∷ (not alive, 13) ∷ (eqb from own, 13) ∷ [] in
    let other : ◌≡◌ {A = ℕ} 13 0 → ⊥ = λ q. omega arith in
    let t = none_holds 0 ts (other, (other, (other, (other, (other, tt))))) e in
    (leb-false n from t.0, eqb-false from own t.1.1.1.1.0)

frame_sound : (s : Station) (f : Frame) (from to : ℕ) → fit s.n f ≡ true → Sound s → Sound (frame_rule s f from to).station
unfolding frame_rule
frame_sound s f from to e k =
    moved_sound s k _ _
    (λ m. unless_sound s k _ _
    (λ z. let c = sender s.n s.own (live_at s.live from) from to z in heard_sound s f from to k m c.0 c.1 e))

pub frame_keeps_whole : (s : Station) (f : Frame) (from to : ℕ) → fit s.n f ≡ true → WholeStation s → WholeStation (frame_rule s f from to).station
frame_keeps_whole s f from to e w = whole_station _ (frame_sound s f from to e (whole_sound s w))
