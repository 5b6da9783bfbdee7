-- What a heard frame and the timer leave and tell. Assumes nothing.
use mathlib.Core.Path.{◌≡◌, refl}
use Prim.Native.Nat.{ℕ, ◌≤◌}
use native.Mathlib.Omega.{arith}
use lib.Dec.{ltb, eqb}
use borrow.Author.Tests.{eqb-true, ltb-false}
use Rattle.parts.proofs.Laws.Choose.{map_or_keeps}
use Rattle.parts.specs.Moves.{move_of, runs}
use Rattle.parts.specs.Frames.{number_of, failing_of, Dispatch, flight}
use Rattle.station.specs.Stations.{state_of, awaited_of, quiet, answered, moved, unless}
use Rattle.station.specs.Strike.{Loss, Struck, strike, nothing_gone, give_up_to, stopped}
use Rattle.parts.specs.Live.{newly}
use Rattle.station.specs.Heard.{Stored, landed, acknowledge, strike_other, strike_heard, failed, receive, stored, handle, respond, heard, checks, frame_rule}
use Rattle.station.specs.Timer.{again, unanswered, after_strike, silence, on_timer, timer_rule}
use Rattle.parts.specs.declared.moves.State.{State}
use Rattle.parts.specs.declared.moves.State.TheVariants.{Offline, Idle, Waiting, Alone, Excluded}
use Rattle.parts.specs.declared.moves.Event.{Event}
use Rattle.parts.specs.declared.moves.Event.TheVariants.{Heard, Timer}
use Rattle.parts.specs.declared.list.Message.{Message}
use Rattle.std.specs.Prelude.{Option, None, Some}
use Rattle.parts.specs.declared.frame.Frame.{Frame}
use Rattle.parts.specs.declared.frame.Frame.TheVariants.{Token, Transmit, Information}
use Rattle.station.specs.declared.station.Station.{Station}
use Rattle.station.specs.declared.station.Answer.{Answer}
use Rattle.station_theorems.proofs.Laws.Telling.{pick_either, Tells, Same, Lost, lost_itself, lost_to, tells_none, tells_through, tells_told, tells_flight}

-- the timer runs when Waiting only
timer_waits : (st : State) → move_of st Timer ≡ runs → st ≡ Waiting
timer_waits Offline e = absurd (omega (arith, e))
timer_waits Idle e = absurd (omega (arith, e))
timer_waits Waiting e = refl
timer_waits Alone e = absurd (omega (arith, e))
timer_waits Excluded e = absurd (omega (arith, e))

same : (s : Station) → Same s s
same s = record { live_same = refl; count_same = refl }

-- ---- what touches neither the live set nor the count

landed_same : (s : Station) → Same s (landed s)
unfolding landed
landed_same s = map_or_keeps (Same s) _ (flight (awaited_of s)) s (λ p. record { live_same = refl; count_same = refl }) (same s)

acknowledge_same : (s : Station) (from k : ℕ) → Same s (acknowledge s from k)
unfolding acknowledge
acknowledge_same s from k =
    let l = landed_same s in
    pick_either (Same s) _ (quiet (landed s) Idle) s (λ h. record { live_same = l.live_same; count_same = l.count_same }) (λ h. same s)

receive_same : (s : Station) (m : Message) → Same s (receive s m).station
unfolding receive
receive_same s m =
    pick_either (λ (t : Stored). Same s t.station) _ _ _
    (λ h. record { live_same = refl; count_same = refl })
    (λ h. record { live_same = refl; count_same = refl })

stored_same : (s : Station) (from : ℕ) (f : Frame) → Same s (stored s from f).station
unfolding stored
stored_same s from (Token t) = same s
stored_same s from (Transmit t) = same s
stored_same s from (Information i) = receive_same s _

-- ---- a failing station

-- a striking, and a call's answer, from s
abbrev StruckFrom : Station → Option ℕ → Struck → Type 0
StruckFrom s w k = Tells s k.station k.struck k.gone w

abbrev pub AnswerFrom : Station → Option ℕ → Answer → Type 0
AnswerFrom s w a = Tells s a.station a.struck a.gone w

module _ (s : Station) (p : ℕ) where
  tells_stopped : (l : Loss) (st : State) → Lost s p l → StruckFrom s (Some p) (stopped l (newly s.live p) st)
  tells_stopped l st h = tells_through s s _ _ _ _ (Some p) (same s) (tells_flight s l p h) (record { live_same = refl; count_same = refl })

  tells_other : StruckFrom s (Some p) (strike_other s p (newly s.live p))
  unfolding strike_other
  tells_other =
      pick_either (StruckFrom s (Some p)) _ _ _
      (λ h. tells_stopped (give_up_to (strike s p) p) Alone (lost_to s p))
      (λ h. tells_told s (give_up_to (strike s p) p) p (lost_to s p))

  tells_heard : StruckFrom s (Some p) (strike_heard s p)
  unfolding strike_heard
  tells_heard =
      pick_either (StruckFrom s (Some p)) _ _ _
      (λ h. tells_stopped (nothing_gone (strike s p)) Excluded (lost_itself s p))
      (λ h. tells_other)

tells_failed : (s : Station) (w : Option ℕ) → StruckFrom s w (failed s w)
unfolding failed
tells_failed s None = tells_none s s (same s)
tells_failed s (Some p) = tells_heard s p

-- ---- a heard frame strikes its failing station

tells_respond : (s : Station) (w : Option ℕ) (k : Struck) (from to : ℕ) (f : Frame) → StruckFrom s w k → AnswerFrom s w (respond k from to f)
unfolding respond handle
tells_respond s w k from to f t =
    let e = stored_same k.station from f in
    pick_either (AnswerFrom s w) _ _ _
    (λ h. t)
    (λ h. tells_through s s _ _ _ _ w (same s) t (record { live_same = e.live_same; count_same = e.count_same }))

pub tells_hearing : (s : Station) (f : Frame) (from to : ℕ) → AnswerFrom s (failing_of f) (heard s f from to)
unfolding heard
tells_hearing s f from to =
    let t : Station = acknowledge s from (number_of f) in
    let k : Struck = failed t (failing_of f) in
    tells_respond s (failing_of f) k from to f
    (tells_through s t k.station k.station _ _ (failing_of f) (acknowledge_same s from (number_of f)) (tells_failed t (failing_of f)) (same k.station))

-- ---- a number alone strikes nobody

pub tells_answered : (s : Station) (n : ℕ) → AnswerFrom s None (answered s n)
tells_answered s n = tells_none s s (same s)

-- ---- below the limit the timer strikes nobody, at the limit the addressee

pub tells_again : (s : Station) → AnswerFrom s None (again s)
tells_again s = tells_none s _ (record { live_same = refl; count_same = refl })

tells_unanswered : (s : Station) (to : ℕ) → StruckFrom s (Some to) (unanswered s to)
unfolding unanswered
tells_unanswered s to = tells_flight s (give_up_to (strike s to) to) to (lost_to s to)

pub tells_last : (s : Station) (to : ℕ) (f : Frame) → AnswerFrom s (Some to) (after_strike (unanswered s to) to f)
unfolding after_strike
tells_last s to f =
    let t = tells_unanswered s to in
    pick_either (AnswerFrom s (Some to)) _ _ _
    (λ h. tells_through s s _ _ _ _ (Some to) (same s) t (record { live_same = refl; count_same = refl }))
    (λ h. tells_through s s _ _ _ _ (Some to) (same s) t (record { live_same = refl; count_same = refl }))

-- ---- what holds of a number alone, and of each step where it is done, holds of the rule

module _ (P : Answer → Type 0) (s : Station) (alone-holds : (n : ℕ) → P (answered s n)) where
  either_moved : (e : Event) (a : Answer) → (move_of (state_of s) e ≡ runs → P a) → P (moved s e a)
  unfolding moved
  either_moved e a f =
      pick_either P (eqb (move_of (state_of s) e) runs) a (answered s (move_of (state_of s) e)) (λ h. f (eqb-true _ _ h)) (λ h. alone-holds _)

  either_unless : (n : ℕ) (a : Answer) → (n ≡ 0 → P a) → P (unless s n a)
  unfolding unless
  either_unless n a f = pick_either P (eqb n 0) a (answered s n) (λ h. f (eqb-true n 0 h)) (λ h. alone-holds n)

  pub either_frame : (f : Frame) (from to : ℕ) → (move_of (state_of s) Heard ≡ runs → checks s from to ≡ 0 → P (heard s f from to)) → P (frame_rule s f from to)
  unfolding frame_rule
  either_frame f from to h = either_moved Heard _ (λ r. either_unless (checks s from to) _ (λ c. h r c))

  either_silence : (to : ℕ) (f : Frame) → P (again s) → (s.limit ≤ s.turn.retries → P (after_strike (unanswered s to) to f)) → P (silence s to f)
  unfolding silence
  either_silence to f g h = pick_either P (ltb s.turn.retries s.limit) _ _ (λ t. g) (λ t. h (ltb-false _ _ t))

  either_dispatch : (d : Dispatch) → P (again s)
      → ((f : Frame) (to : ℕ) → d ≡ Some (f, to) → s.limit ≤ s.turn.retries → P (after_strike (unanswered s to) to f)) → P (on_timer s d)
  unfolding on_timer
  either_dispatch None g h = alone-holds 0
  either_dispatch (Some (f, to)) g h = either_silence to f g (h f to refl)

  pub either_timer : P (again s)
      → ((f : Frame) (to : ℕ) → state_of s ≡ Waiting → awaited_of s ≡ Some (f, to) → s.limit ≤ s.turn.retries → P (after_strike (unanswered s to) to f)) → P (timer_rule s)
  unfolding timer_rule
  either_timer g h = either_moved Timer _ (λ r. either_dispatch (awaited_of s) g (λ f to. h f to (timer_waits (state_of s) r)))
