-- The timer keeps a whole station whole. Assumes nothing.
use mathlib.Core.Path.{◌≡◌, refl, ap}
use mathlib.Core.Bool.{Bool, true, false}
use Prim.Native.Nat.{ℕ, ◌<◌}
use native.Mathlib.Omega.{arith}
use lib.Dec.{ltb}
use borrow.Author.Tests.{ltb-true, eqb-false, not-true}
use Rattle.parts.specs.Choose.{pick}
use Rattle.parts.specs.Moves.{move_of, runs}
use Rattle.parts.specs.Frames.{flight, fit, Dispatch}
use Rattle.station.specs.Stations.{state_of, awaited_of, alone, quiet, more_turn, counted}
use Rattle.station.specs.Sight.{sight}
use Rattle.station.specs.Strike.{Loss, Struck, strike, give_up_to}
use Rattle.station.specs.Timer.{again, left_alone, goes_on, unanswered, after_strike, silence, on_timer, timer_rule}
use Rattle.sent.specs.Resend.{resend}
use Rattle.wholeness.specs.Whole.{awaited_good}
use Rattle.parts.specs.declared.moves.State.{State}
use Rattle.parts.specs.declared.moves.State.TheVariants.{Idle}
use Rattle.parts.specs.declared.moves.Event.TheVariants.{Heard}
use Rattle.parts.specs.declared.frame.Frame.{Frame}
use Rattle.std.specs.Prelude.{None, Some}
use Rattle.station.specs.declared.station.Station.{Station}
use Rattle.station_theorems.specs.Shaped.{WholeStation}
use Rattle.station_theorems.proofs.Laws.States.{waits}
use Rattle.parts.proofs.Laws.Tests.{held}
use Rattle.station_theorems.proofs.Laws.Based.{ringed, Based, sound_based, quiet_alone, sends_off}
use Rattle.station_theorems.proofs.Laws.Sending.{resend_proper}
use Rattle.station_theorems.proofs.Laws.Struck.{struck_based, left_based, still_based, counted_based, flight_cases}
use Rattle.station_theorems.proofs.Laws.Sound.{Sound, whole_sound, whole_station, moved_sound, turn_fits_lem}

-- ---- the same frame again

again_sound : (s : Station) → Sound s → s.turn.retries < s.limit → Sound (again s).station
again_sound s k h =
    record {
      shaped = record { seats = k.shaped.seats; sends = k.shaped.sends; receives = k.shaped.receives };
      ring = k.ring;
      seats = k.seats;
      company = k.company;
      sends = k.sends;
      receives = k.receives;
      waiters = k.waiters;
      retries = turn_fits_lem (more_turn s.turn) s.limit (omega arith);
      awaited = k.awaited;
    }

-- ---- the last timer

-- a station between two turns, on the same ring
record Settled (s t : Station) : Type 0 where
  based : Based None t
  same_ring : t.n ≡ s.n

settled : (s : Station) (p : ℕ) → (p ≡ s.own → ⊥) → Based (flight (awaited_of s)) s → Settled s (unanswered s p).station
unfolding unanswered give_up_to
settled s p o b =
    let l : Loss = give_up_to (strike s p) p in
    let c = struck_based s (flight (awaited_of s)) b p o refl in
    flight_cases (λ (m : Loss). Settled s (counted m.station m.gone.len)) l (flight (awaited_of s)) refl c.flown
    (λ off. record { based = counted_based _ None (still_based l.station (flight (awaited_of s)) c off) _; same_ring = refl })
    (λ r on g. record { based = counted_based _ None (left_based l.station (flight (awaited_of s)) c r on) _; same_ring = refl })

after_sound : (s : Station) (k : Struck) (to : ℕ) (f : Frame) → Settled s k.station → to < s.n → fit s.n f ≡ true → Sound (after_strike k to f).station
unfolding after_strike pick
after_sound s k to f h low e = go (alone k.station) refl
  where
    go : (b : Bool) → alone k.station ≡ b → Sound (pick b (left_alone k) (goes_on k (resend (sight (quiet k.station Idle)) to f))).station
    go true a = quiet_alone k.station h.based a
    go false a =
        let r = ringed k.station.n k.station.limit k.station.own h.based.ring in
        sends_off k.station h.based _ _ a
        (resend_proper (quiet k.station Idle) r.member h.based.sends a to f (rw h.same_ring low) (rw h.same_ring e))

silence_sound : (s : Station) → move_of (state_of s) Heard ≡ runs → Sound s → (to : ℕ) (f : Frame) → awaited_good (state_of s) s.n s.own s.sends (Some (f, to)) ≡ true
    → Sound (silence s to f).station
unfolding silence pick awaited_good
silence_sound s m k to f e = go (ltb s.turn.retries s.limit) refl
  where
    go : (b : Bool) → ltb s.turn.retries s.limit ≡ b → Sound (pick b (again s) (after_strike (unanswered s to) to f)).station
    go true t = again_sound s k (ltb-true _ _ t)
    go false t =
        let h = held _ e in
        let o : to ≡ s.own → ⊥ = eqb-false to s.own (not-true _ h.1.1.1.0) in
        after_sound s (unanswered s to) to f (settled s to o (sound_based s m k)) (ltb-true to s.n h.1.1.0) h.1.0

timer_on : (s : Station) → move_of (state_of s) Heard ≡ runs → Sound s → (d : Dispatch) → awaited_good (state_of s) s.n s.own s.sends d ≡ true
    → Sound (on_timer s d).station
unfolding on_timer
timer_on s m k None e = k
timer_on s m k (Some (f, to)) e = silence_sound s m k to f e

timer_sound : (s : Station) → Sound s → Sound (timer_rule s).station
unfolding timer_rule
timer_sound s k = moved_sound s k _ _ (λ r. timer_on s (ap (λ (st : State). move_of st Heard) (waits (state_of s) r)) k (awaited_of s) k.awaited)

pub timer_keeps_whole : (s : Station) → WholeStation s → WholeStation (timer_rule s).station
timer_keeps_whole s w = whole_station _ (timer_sound s (whole_sound s w))
