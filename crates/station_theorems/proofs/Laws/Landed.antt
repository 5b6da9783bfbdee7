-- What leaves the send list in a heard frame and at the last timer: an acknowledged message in flight too. Assumes nothing.
use mathlib.Core.Path.{◌≡◌, refl, sym, ap, subst, ◌∙◌}
use mathlib.Core.Bool.{Bool, true, false, not, ◌&&◌, ◌||◌, and-true, and-false}
use mathlib.Core.List.{List, [], ◌++◌}
use Prim.Native.Nat.{ℕ, ◌≤◌}
use native.Mathlib.Omega.{arith}
use lib.ListN.{length}
use Rattle.parts.specs.Messages.{all, flies, fits, only}
use Rattle.parts.specs.Frames.{number_of, flight, failing_of, Dispatch}
use Rattle.station.specs.Strike.{Struck}
use Rattle.station.specs.Stations.{awaited_of, with_turn, with_sends, quiet}
use Rattle.station.specs.Heard.{Stored, acknowledged, landed, acknowledge, failed, receive, stored, handle, respond, heard}
use Rattle.station.specs.Timer.{unanswered, after_strike}
use Rattle.wholeness.specs.Whole.{apart}
use Rattle.parts.specs.declared.moves.State.TheVariants.{Idle}
use Rattle.parts.specs.declared.list.Message.{Message}
use Rattle.parts.specs.declared.list.Messages.{Messages}
use Rattle.parts.specs.declared.list.Which.TheVariants.{WaitingFor, HasPlace}
use Rattle.std.specs.Prelude.{Option, None, Some}
use Rattle.parts.specs.declared.frame.Frame.{Frame}
use Rattle.parts.specs.declared.frame.Frame.TheVariants.{Token, Transmit, Information}
use Rattle.station.specs.declared.station.Station.{Station}
use Rattle.parts.proofs.Laws.Choose.{pick_true, pick_false, map_or_keeps, map_or_either}
use Rattle.parts.proofs.Laws.Messages.{only_length}
use Rattle.station_theorems.specs.Leaves.{waits_to, flying, Leaves, AnswerLeaves, another_than, stops}
use Rattle.station_theorems.proofs.Laws.Kept.{apart_only}
use Rattle.station_theorems.proofs.Laws.Telling.{pick_either}
use Rattle.station_theorems.proofs.Laws.Only.{only_same, only_all, only_nothing, only_twice}
use Rattle.station_theorems.proofs.Laws.Leaving.{split_kept, flies_at, flies_not}
use Rattle.station_theorems.proofs.Laws.Leaves.{leaves_then, both_leave, failed_leaves}

-- ---- an acknowledgement

module _ (s : Station) (from k : ℕ) where
  -- it touches the send list and the turn only
  acknowledge_only : acknowledge s from k ≡ with_turn (with_sends s (acknowledge s from k).sends) (acknowledge s from k).turn
  unfolding acknowledge landed
  acknowledge_only =
      pick_either (λ (t : Station). t ≡ with_turn (with_sends s t.sends) t.turn) (acknowledged s from k) _ s
      (λ e. map_or_keeps (λ (t : Station). quiet t Idle ≡ with_turn (with_sends s t.sends) (quiet t Idle).turn) _ (flight (awaited_of s)) s (λ p. refl) refl)
      (λ e. refl)

  pub not_acknowledged : acknowledged s from k ≡ false → acknowledge s from k ≡ s
  unfolding acknowledge
  not_acknowledged e = pick_false _ _ e

  module _ (e : acknowledged s from k ≡ true) where
    acknowledged_awaits : awaited_of (acknowledge s from k) ≡ None
    unfolding acknowledge
    acknowledged_awaits = ap awaited_of (pick_true _ _ e)

    acknowledged_sends : all (acknowledge s from k).sends ≡ only (λ (m : Message). not (flying s m)) (all s.sends)
    unfolding acknowledge landed
    acknowledged_sends =
        ap (λ (t : Station). all t.sends) (pick_true {b = acknowledged s from k} (quiet (landed s) Idle) s e)
        ∙ map_or_either (λ (t : Station). all t.sends ≡ only (λ (m : Message). not (flying s m)) (all s.sends)) _ (flight (awaited_of s)) s
        (λ p on. split_kept (HasPlace _) s.sends ∙ only_same _ _ (λ m. ap not (sym (flies_at (flight (awaited_of s)) p on m))) (all s.sends))
        (λ off. sym (only_all _ (λ m. ap not (flies_not (flight (awaited_of s)) off m)) (all s.sends)))

-- what the failing station does is the same before and after it
module _ (s t : Station) (e : t ≡ with_turn (with_sends s t.sends) t.turn) where
  same_another : (w : Option ℕ) → another_than t.own w ≡ another_than s.own w
  same_another w = ap (λ (u : Station). another_than u.own w) e

  same_stops : (w : Option ℕ) → stops t w ≡ stops s w
  same_stops None = refl
  same_stops (Some p) = ap (λ (u : Station). stops u (Some p)) e

-- the one in flight has landed in t; then those that leave t leave s too
module _ (s t u : Station) (gone : Messages) (w : Option ℕ) (flew : Bool)
    (landed' : all t.sends ≡ only (λ (m : Message). not (flying s m)) (all s.sends)) (awaits : awaited_of t ≡ None) where
  ms : List Message
  ms = all s.sends

  none_flies : (m : Message) → flying t m ≡ false
  none_flies m = ap (λ (d : Dispatch). flies (flight d) m) awaits

  waits_both : (w : Option ℕ) (m : Message) → (not (flying s m) && waits_to t w m) ≡ waits_to s w m
  unfolding fits
  waits_both None m = and-false (not (flying s m))
  waits_both (Some p) m = ap (λ (d : Dispatch). not (flying s m) && fits (WaitingFor (flight d) p) m) awaits

  pub leaves_landed : Leaves t u gone w flew false → Leaves s u gone w (flew && false) true
  unfolding ms
  leaves_landed k =
      record {
        remaining =
            k.remaining
            ∙ ap (only (λ (m : Message). not (waits_to t w m || ((flew || false) && flying t m)))) landed'
            ∙ only_twice _ (λ (m : Message). not (flying s m)) ms
            ∙ only_same _ _ (λ m.
            ap (λ (g : Bool). not (flying s m) && not (waits_to t w m || ((flew || false) && g))) (none_flies m)
            ∙ one_test (flying s m) (waits_to t w m) flew
            ∙ ap (λ (v : Bool). not (v || (((flew && false) || true) && flying s m))) (waits_both w m)) ms;
        told =
            k.told
            ∙ ap (λ (l : List Message). only (waits_to t w) (all t.sends) ++ l)
            (only_nothing _ (λ m. ap (λ (g : Bool). flew && g) (none_flies m) ∙ and-false flew) (all t.sends)
            ∙ sym (only_nothing _ (λ m. ap (λ (g : Bool). g && flying s m) (and-false flew)) ms))
            ∙ ap (λ (l : List Message). l ++ only (λ (m : Message). (flew && false) && flying s m) ms)
            (ap (only (waits_to t w)) landed' ∙ only_twice (waits_to t w) (λ (m : Message). not (flying s m)) ms ∙ only_same _ _ (waits_both w) ms);
      }
    where
      one_test : (f v y : Bool) → (not f && not (v || ((y || false) && false))) ≡ not ((not f && v) || (((y && false) || true) && f))
      one_test true v true = refl
      one_test true v false = refl
      one_test false true true = refl
      one_test false true false = refl
      one_test false false true = refl
      one_test false false false = refl

-- ---- a heard frame

receive_sends : (s : Station) (m : Message) → (receive s m).station.sends ≡ s.sends
unfolding receive
receive_sends s m = pick_either (λ (t : Stored). t.station.sends ≡ s.sends) _ _ _ (λ e. refl) (λ e. refl)

stored_sends : (s : Station) (from : ℕ) (f : Frame) → (stored s from f).station.sends ≡ s.sends
unfolding stored
stored_sends s from (Token t) = refl
stored_sends s from (Transmit t) = refl
stored_sends s from (Information i) = receive_sends s _

respond_leaves : (s : Station) (k : Struck) (w : Option ℕ) (flew landed : Bool) (from to : ℕ) (f : Frame) → Leaves s k.station k.gone w flew landed
    → AnswerLeaves s w flew landed (respond k from to f)
unfolding respond handle
respond_leaves s k w flew landed from to f l =
    pick_either (AnswerLeaves s w flew landed) _ _ _ (λ e. l) (λ e. leaves_then _ _ _ _ _ _ _ l (stored_sends k.station from f))

module _ (s : Station) (a : apart [] (all s.sends) ≡ true) (h : length (all s.sends) ≤ 16) where
  pub heard_leaves : (f : Frame) (from to : ℕ)
      → AnswerLeaves s (another_than s.own (failing_of f)) (stops s (failing_of f) && not (acknowledged s from (number_of f))) (acknowledged s from (number_of f)) (heard s f from to)
  unfolding heard
  heard_leaves f from to = respond_leaves s (failed t w) (another_than s.own w) _ _ from to f (go (acknowledged s from (number_of f)) refl)
    where
      w : Option ℕ
      w = failing_of f

      t : Station
      t = acknowledge s from (number_of f)

      others : Message → Bool
      others m = not (flying s m)

      go : (b : Bool) → acknowledged s from (number_of f) ≡ b
          → Leaves s (failed t w).station (failed t w).gone (another_than s.own w) (stops s w && not (acknowledged s from (number_of f))) (acknowledged s from (number_of f))
      go true e =
          let left : all t.sends ≡ only others (all s.sends) = acknowledged_sends s from (number_of f) e in
          let a' : apart [] (all t.sends) ≡ true = rw left (apart_only others [] [] (all s.sends) (λ q z. z) a) in
          let h' : length (all t.sends) ≤ 16 = rw left (omega (arith, only_length others (all s.sends))) in
          let only_two = acknowledge_only s from (number_of f) in
          rw (e, ← same_another s t only_two w, ← same_stops s t only_two w)
          (leaves_landed s t (failed t w).station (failed t w).gone (another_than t.own w) (stops t w) left (acknowledged_awaits s from (number_of f) e) (failed_leaves t a' h' w))
      go false e =
          rw (e, and-true (stops s w))
          (subst (λ (u : Station). Leaves s (failed u w).station (failed u w).gone (another_than s.own w) (stops s w) false) (sym (not_acknowledged s from (number_of f) e)) (failed_leaves s a h w))

  -- ---- the last timer

  unanswered_leaves : (to : ℕ) → Leaves s (unanswered s to).station (unanswered s to).gone (Some to) true false
  unfolding unanswered
  unanswered_leaves to = leaves_then _ _ _ _ _ _ _ (both_leave s to a h) refl

  pub last_leaves : (to : ℕ) (f : Frame) → AnswerLeaves s (Some to) true false (after_strike (unanswered s to) to f)
  unfolding after_strike
  last_leaves to f =
      pick_either (AnswerLeaves s (Some to) true false) _ _ _
      (λ e. leaves_then _ _ _ _ _ _ _ (unanswered_leaves to) refl)
      (λ e. leaves_then _ _ _ _ _ _ _ (unanswered_leaves to) refl)
