-- Laws of what is decided before any list is touched: once it is done it is what the page's rules say. Assumes nothing.
use mathlib.Core.Path.{◌≡◌, refl, sym, ap, ◌∙◌}
use mathlib.Core.Bool.{Bool, true, false, not, false≢true}
use mathlib.Core.List.{[], ◌∷◌}
use Prim.Native.Nat.{ℕ}
use lib.Dec.{eqb, ltb}
use Rattle.codec.specs.Order.{first_of}
use Rattle.parts.specs.Choose.{pick}
use Rattle.parts.specs.Moves.{move_of, runs, is_idle}
use Rattle.parts.specs.Messages.{split_by}
use Rattle.parts.specs.Live.{without, successor}
use Rattle.parts.specs.Frames.{number_of, flight, failing_of, Dispatch}
use Rattle.sent.specs.Round.{reply, start_round}
use Rattle.sent.specs.Resend.{resend}
use Rattle.station.specs.Stations.{station_by, state_of, awaited_of, with_turn, quiet_turn, quiet, sending_turn, more_turn, head, answered, moved, unless}
use Rattle.station.specs.Sight.{sight}
use Rattle.station.specs.Strike.{Struck}
use Rattle.station.specs.Start.{sent_first, started, start_rule}
use Rattle.station.specs.Heard.{Stored, checks, acknowledged, failed, is_last, stops, nothing_more, heard_message, stored, send_on, handle, silent, respond, heard, frame_rule}
use Rattle.station.specs.Timer.{again, unanswered, left_alone, goes_on, after_strike, silence, on_timer, timer_rule}
use Rattle.station.specs.Deeds.{refused, turned, landing, leaving, live_after, received, received_one, carried_out, untouched, turn_alone, done_by}
use Rattle.station.specs.Decide.{live_without, competing, sight_after, rested, lands_by, blow_at, blow_of, closed, course_of, to_store, quietly, replying, hearing, decided, strikes_out, going_on, last_timer, beginning, starting, decided_start, decided_silence, decided_awaiting, decided_timer}
use Rattle.parts.specs.declared.moves.State.TheVariants.{Idle, Alone, Excluded}
use Rattle.parts.specs.declared.moves.Event.TheVariants.{Heard, Timer, Start}
use Rattle.parts.specs.declared.list.Message.{Message}
use Rattle.parts.specs.declared.list.Which.TheVariants.{WaitingFor}
use Rattle.std.specs.Prelude.{Option, None, Some}
use Rattle.parts.specs.declared.frame.InformationFrame.{InformationFrame}
use Rattle.parts.specs.declared.frame.Frame.{Frame}
use Rattle.parts.specs.declared.frame.Frame.TheVariants.{Token, Transmit, Information}
use Rattle.sent.specs.declared.round.Sight.{Sight}
use Rattle.station.specs.declared.station.Turn.{Turn}
use Rattle.station.specs.declared.station.Station.{Station}
use Rattle.station.specs.declared.station.Answer.{Answer}
use Rattle.station.specs.declared.rules.heard.Course.{Course}
use Rattle.station.specs.declared.rules.deeds.Blow.{Blow}
use Rattle.station.specs.declared.rules.deeds.Blow.TheVariants as blow
use Rattle.station.specs.declared.rules.deeds.Verdict.{Verdict}
use Rattle.station.specs.declared.rules.deeds.Received.{Received}
use Rattle.parts.proofs.Laws.Choose.{pick_true, pick_false}
use Rattle.station.proofs.Laws.Deeds.{does_nothing, turned_alone, struck_of, fails, strikes_out_lem, acked_by, acknowledges, receives_so, receive_sight}
use Rattle.station.proofs.Laws.Heads.{landed_best, others_best, flight_best}

-- ---- which of the two a heard frame asks for

module _ (s : Station) (f : Frame) (from to : ℕ) (k : Course) (n : ℕ) (i : n ≡ number_of f) where
  pub hears_quietly : stops s.own k.turn to n ≡ true → quietly k ≡ hearing s f from to k
  unfolding hearing
  hears_quietly h = sym (pick_true _ _ (ap (stops s.own k.turn to) (sym i) ∙ h))

  pub hears_replying : stops s.own k.turn to n ≡ false → replying s f from k ≡ hearing s f from to k
  unfolding hearing
  hears_replying h = sym (pick_false _ _ (ap (stops s.own k.turn to) (sym i) ∙ h))

-- ---- where it is answered, nobody is Alone or Excluded, and the station looks at what it looked at before

stopped_there : (own : ℕ) (t : Turn) (to k : ℕ) → is_idle t.state ≡ false → stops own t to k ≡ true
stopped_there own t to k i = go (not (eqb to own)) (is_last t.handled k) (is_idle t.state) i
  where
    go : (a b c : Bool) → c ≡ false → first_of false ((a, true) ∷ (b, true) ∷ (not c, true) ∷ []) ≡ true
    go true b c e = refl
    go false true c e = refl
    go false false true e = sym e
    go false false false e = refl

module _ (s : Station) (a : Bool) (to k : ℕ) where
  abbrev after : Blow → Station
  after b = (struck_of s b (closed (rested s.turn a) b) (leaving b (flight (rested s.turn a).awaited) (landing (lands_by s.turn a) s.sends))).station

  looks : (w : Option ℕ) → stops s.own (closed (rested s.turn a) (blow_of s.live s.n s.own w)) to k ≡ false
      → sight (after (blow_of s.live s.n s.own w)) ≡ sight_after s w
  unfolding blow_of blow_at closed leaving live_after live_without competing head pick
  looks None h = rw (landed_best s.turn a None s.sends)
  looks (Some p) h = go (eqb p s.own) (eqb (successor (without s.live p) s.n s.own) s.own) h
    where
      t : Turn
      t = rested s.turn a

      go : (x y : Bool) → stops s.own (closed t (pick x (blow.Itself p) (pick y (blow.Last p) (blow.Another p)))) to k ≡ false
          → sight (after (pick x (blow.Itself p) (pick y (blow.Last p) (blow.Another p)))) ≡ sight_after s (Some p)
      go true y e = absurd (false≢true (sym e ∙ stopped_there s.own (quiet_turn t Excluded) to k refl))
      go false true e = absurd (false≢true (sym e ∙ stopped_there s.own (quiet_turn t Alone) to k refl))
      go false false e =
          rw (others_best (flight t.awaited) p (landing (lands_by s.turn a) s.sends), landed_best s.turn a (Some p) s.sends)

-- ---- what is stored, and the frame that is sent

module _ (k : Struck) (s : Station) (from : ℕ) (same : (i : InformationFrame) → heard_message s from i ≡ heard_message k.station from i) (d : Dispatch) (n : ℕ) where
  abbrev answer_with : Received → Answer
  answer_with r =
      record {
        station =
            station_by k.station.n k.station.limit k.station.own k.station.live k.station.sends r.list
            (sending_turn (Some n) d)
            (record { lost = r.lost; givenup = k.station.counts.givenup });
        number = 0;
        sent = d;
        struck = k.struck;
        gone = k.gone;
        payload = r.payload;
      }

  replies : (f : Frame)
      → send_on k (stored k.station from f) n d ≡ answer_with (received k.station.receives k.station.counts.lost (to_store s from f))
  unfolding stored to_store received
  replies (Token t) = refl
  replies (Transmit t) = refl
  replies (Information i) =
      ap
      (λ (x : Stored). let a : Answer = record { station = x.station; number = 0; sent = d; struck = k.struck; gone = k.gone; payload = x.payload } in a)
      (receives_so k.station (heard_message k.station from i) (sending_turn (Some n) d))
      ∙ ap (λ (m : Message). answer_with (received_one k.station.receives k.station.counts.lost m)) (sym (same i))

stored_sight : (s : Station) (from : ℕ) (f : Frame) → sight (stored s from f).station ≡ sight s
unfolding stored
stored_sight s from (Token t) = refl
stored_sight s from (Transmit t) = refl
stored_sight s from (Information i) = receive_sight s (heard_message s from i)

-- ---- the steps

module _ (s : Station) (f : Frame) (from to : ℕ) where
  abbrev acked : Bool
  acked = acknowledged s from (number_of f)

  abbrev hit : Blow
  hit = blow_of s.live s.n s.own (failing_of f)

  abbrev harmed : Struck
  harmed = struck_of s hit (closed (rested s.turn acked) hit) (leaving hit (flight (rested s.turn acked).awaited) (landing (lands_by s.turn acked) s.sends))

  harms : heard s f from to ≡ respond harmed from to f
  unfolding heard
  harms =
      ap (λ (t : Station). respond (failed t (failing_of f)) from to f) (acknowledges s from (number_of f))
      ∙ ap (λ (k : Struck). respond k from to f) (fails (acked_by s acked) (failing_of f))

  stays_quiet : silent harmed ≡ carried_out s (quietly (course_of s f acked))
  unfolding carried_out received
  stays_quiet = refl

  answers : stops s.own (closed (rested s.turn acked) hit) to (number_of f) ≡ false
      → handle harmed (stored harmed.station from f) f ≡ carried_out s (replying s f from (course_of s f acked))
  unfolding handle carried_out replying
  answers h =
      ap (λ (v : Sight). send_on harmed (stored harmed.station from f) (number_of f) (reply v f))
      (stored_sight harmed.station from f ∙ looks s acked to (number_of f) (failing_of f) h)
      ∙ replies harmed s from (λ i. refl) (reply (sight_after s (failing_of f)) f) (number_of f) f

  pub decides : heard s f from to ≡ carried_out s (hearing s f from to (course_of s f acked))
  unfolding respond nothing_more hearing pick
  decides = harms ∙ go (stops s.own (closed (rested s.turn acked) hit) to (number_of f)) refl
    where
      go : (b : Bool) → stops s.own (closed (rested s.turn acked) hit) to (number_of f) ≡ b
          → pick b (silent harmed) (handle harmed (stored harmed.station from f) f)
          ≡ carried_out s (pick b (quietly (course_of s f acked)) (replying s f from (course_of s f acked)))
      go true e = stays_quiet
      go false e = answers e

-- after the table of moves and the checks
nothing_done : (s : Station) (number : ℕ) → answered s number ≡ carried_out s (refused s.turn number)
nothing_done s number = turned_alone s number s.turn None

pub frame_decides : (s : Station) (f : Frame) (from to : ℕ) → frame_rule s f from to ≡ carried_out s (decided s f from to)
unfolding frame_rule moved unless decided pick
frame_decides s f from to = go (eqb (move_of (state_of s) Heard) runs) (eqb (checks s from to) 0)
  where
    v : Verdict
    v = hearing s f from to (course_of s f (acknowledged s from (number_of f)))

    go : (b c : Bool)
        → pick b (pick c (heard s f from to) (answered s (checks s from to))) (answered s (move_of (state_of s) Heard))
        ≡ carried_out s (pick b (pick c v (refused s.turn (checks s from to))) (refused s.turn (move_of (state_of s) Heard)))
    go true true = decides s f from to
    go true false = nothing_done s (checks s from to)
    go false c = nothing_done s (move_of (state_of s) Heard)

-- where the turn alone changes
decided_alone : (s : Station) (f : Frame) (from to : ℕ) → (decided s f from to).alone ≡ untouched (decided s f from to).deeds
unfolding decided hearing replying pick
decided_alone s f from to =
    go (eqb (move_of (state_of s) Heard) runs) (eqb (checks s from to) 0) (stops s.own k.turn to (number_of f))
  where
    k : Course
    k = course_of s f (acknowledged s from (number_of f))

    v : Bool → Bool → Bool → Verdict
    v a b c =
        pick a (pick b (pick c (quietly k) (replying s f from k)) (refused s.turn (checks s from to))) (refused s.turn (move_of (state_of s) Heard))

    go : (a b c : Bool) → (v a b c).alone ≡ untouched (v a b c).deeds
    go true true true = refl
    go true true false = refl
    go true false c = refl
    go false b c = refl

pub turned_hears : (s : Station) (f : Frame) (from to : ℕ) → (decided s f from to).alone ≡ true → frame_rule s f from to ≡ turn_alone s (decided s f from to)
turned_hears s f from to e =
    frame_decides s f from to ∙ sym (does_nothing s (decided s f from to) (sym (decided_alone s f from to) ∙ e))

-- ---- the timer, and the start

module _ (s : Station) (to : ℕ) where
  abbrev lone : Struck
  lone = struck_of s (blow.Last to) s.turn (leaving (blow.Last to) (flight (awaited_of s)) s.sends)

  looks_on : sight (quiet lone.station Idle) ≡ sight_after s (Some to)
  unfolding leaving live_after live_without competing head
  looks_on =
      rw (flight_best (split_by (WaitingFor (flight (awaited_of s)) to) s.sends) (flight (awaited_of s)), others_best (flight (awaited_of s)) to s.sends)

  strikes_fully : (t : Turn) (d : Dispatch)
      → record { station = with_turn lone.station t; number = 0; sent = d; struck = lone.struck; gone = lone.gone; payload = None }
      ≡ carried_out s (strikes_out s to t d)
  unfolding carried_out received landing pick
  strikes_fully t d = refl

  goes_alone : left_alone lone ≡ carried_out s (strikes_out s to (quiet_turn s.turn Alone) None)
  goes_alone = strikes_fully (quiet_turn s.turn Alone) None

  goes_further : (d : Dispatch) → goes_on lone d ≡ carried_out s (going_on s to d)
  goes_further d = strikes_fully (sending_turn s.turn.handled d) d

  pub times_last : (f : Frame) → after_strike (unanswered s to) to f ≡ carried_out s (last_timer s to f)
  unfolding after_strike unanswered last_timer live_after pick
  times_last f = ap (λ (k : Struck). after_strike k to f) (strikes_out_lem s to) ∙ go (eqb (successor (without s.live to) s.n s.own) s.own)
    where
      go : (b : Bool)
          → pick b (left_alone lone) (goes_on lone (resend (sight (quiet lone.station Idle)) to f))
          ≡ carried_out s (pick b (strikes_out s to (quiet_turn s.turn Alone) None) (going_on s to (resend (sight_after s (Some to)) to f)))
      go true = goes_alone
      go false = ap (λ (v : Sight). goes_on lone (resend v to f)) looks_on ∙ goes_further (resend (sight_after s (Some to)) to f)

looks_first : (s : Station) → sight s ≡ sight_after s None
unfolding live_without competing head
looks_first s = refl

pub start_decides : (s : Station) → started s ≡ turn_alone s (starting s)
unfolding started starting pick
start_decides s = go (eqb s.own 0)
  where
    go : (b : Bool)
        → pick b (sent_first s (start_round (sight s) 0 None)) (answered (quiet s Idle) 0)
        ≡ turn_alone s (pick b (beginning s (start_round (sight_after s None) 0 None)) (turned (quiet_turn s.turn Idle) None))
    go true = ap (λ (v : Sight). sent_first s (start_round v 0 None)) (looks_first s)
    go false = refl

-- ---- what is decided is done: over a verdict that says rightly whether it changes the turn alone

-- the answer a is what v asks for
pub record Decides (s : Station) (a : Answer) (v : Verdict) : Type 0 where
  pub carried : a ≡ carried_out s v
  pub honest : v.alone ≡ untouched v.deeds

module _ {s : Station} {a : Answer} {v : Verdict} (d : Decides s a v) where
  pub done_alone : v.alone ≡ true → turn_alone s v ≡ a
  done_alone e = does_nothing s v (sym d.honest ∙ e) ∙ sym d.carried

  pub done_so : done_by s v ≡ a
  unfolding done_by pick
  done_so = go v.alone refl
    where
      go : (b : Bool) → v.alone ≡ b → pick b (turn_alone s v) (carried_out s v) ≡ a
      go true e = done_alone e
      go false e = sym d.carried

pub frame_so : (s : Station) (f : Frame) (from to : ℕ) → Decides s (frame_rule s f from to) (decided s f from to)
frame_so s f from to = record { carried = frame_decides s f from to; honest = decided_alone s f from to }

pub start_so : (s : Station) → Decides s (start_rule s) (decided_start s)
unfolding start_rule moved decided_start starting pick
start_so s = go (eqb (move_of (state_of s) Start) runs) (eqb s.own 0) (start_decides s)
  where
    first : Bool → Verdict
    first c = pick c (beginning s (start_round (sight_after s None) 0 None)) (turned (quiet_turn s.turn Idle) None)

    go : (b c : Bool) → started s ≡ turn_alone s (first c)
        → Decides s (pick b (started s) (answered s (move_of (state_of s) Start))) (pick b (first c) (refused s.turn (move_of (state_of s) Start)))
    go true true e = record { carried = e ∙ turned_alone s 0 (sending_turn s.turn.handled (start_round (sight_after s None) 0 None)) (start_round (sight_after s None) 0 None); honest = refl }
    go true false e = record { carried = e ∙ turned_alone s 0 (quiet_turn s.turn Idle) None; honest = refl }
    go false c e = record { carried = nothing_done s (move_of (state_of s) Start); honest = refl }

silence_so : (s : Station) (to : ℕ) (f : Frame) → Decides s (silence s to f) (decided_silence s to f)
unfolding silence decided_silence last_timer pick
silence_so s to f = go (ltb s.turn.retries s.limit) (eqb (successor (without s.live to) s.n s.own) s.own) (times_last s to f)
  where
    last : Bool → Verdict
    last c = pick c (strikes_out s to (quiet_turn s.turn Alone) None) (going_on s to (resend (sight_after s (Some to)) to f))

    go : (b c : Bool) → after_strike (unanswered s to) to f ≡ carried_out s (last c)
        → Decides s (pick b (again s) (after_strike (unanswered s to) to f)) (pick b (turned (more_turn s.turn) (awaited_of s)) (last c))
    go true c e = record { carried = turned_alone s 0 (more_turn s.turn) (awaited_of s); honest = refl }
    go false true e = record { carried = e; honest = refl }
    go false false e = record { carried = e; honest = refl }

awaiting_so : (s : Station) (d : Dispatch) → Decides s (on_timer s d) (decided_awaiting s d)
unfolding on_timer decided_awaiting
awaiting_so s None = record { carried = nothing_done s 0; honest = refl }
awaiting_so s (Some (f, to)) = silence_so s to f

pub timer_so : (s : Station) → Decides s (timer_rule s) (decided_timer s)
unfolding timer_rule moved decided_timer pick
timer_so s = go (eqb (move_of (state_of s) Timer) runs)
  where
    go : (b : Bool)
        → Decides s (pick b (on_timer s (awaited_of s)) (answered s (move_of (state_of s) Timer)))
        (pick b (decided_awaiting s (awaited_of s)) (refused s.turn (move_of (state_of s) Timer)))
    go true = awaiting_so s (awaited_of s)
    go false = record { carried = nothing_done s (move_of (state_of s) Timer); honest = refl }

pub frame_done : (s : Station) (f : Frame) (from to : ℕ) → done_by s (decided s f from to) ≡ frame_rule s f from to
frame_done s f from to = done_so (frame_so s f from to)

pub start_done : (s : Station) → done_by s (decided_start s) ≡ start_rule s
start_done s = done_so (start_so s)

pub timer_done : (s : Station) → done_by s (decided_timer s) ≡ timer_rule s
timer_done s = done_so (timer_so s)
