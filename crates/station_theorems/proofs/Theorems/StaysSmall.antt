-- Every call keeps frame numbers, priorities and counts within their types' ranges, where those of the heard frame are. Assumes nothing.
use mathlib.Core.Path.{◌≡◌, refl}
use mathlib.Core.Bool.{Bool, true, false, not}
use mathlib.Core.List.{[], ◌∷◌}
use Prim.Native.Nat.{ℕ, ◌<◌}
use native.Mathlib.Omega.{arith}
use lib.Dec.{leb, ltb, eqb}
use borrow.Author.Tests.{eqb-true}
use Rattle.parts.proofs.Laws.Choose.{map_or_keeps}
use Rattle.codec.specs.Order.{first_of}
use Rattle.parts.specs.Choose.{pick}
use Rattle.parts.specs.Live.{live_at}
use Rattle.parts.specs.Frames.{number_of, next, failing_of, flight, Dispatch}
use Rattle.station.specs.Stations.{awaited_of, made, with_sends, quiet, sending, head, moved, unless, alone}
use Rattle.sent.specs.Round.{bid_of, own_bid, forward, start_round}
use Rattle.station.specs.Start.{started, start_rule}
use Rattle.station.specs.Strike.{Loss, Struck, strike, give_up_to, give_up_at, give_up_flight, leave, message_at, nothing_gone, told, stopped}
use Rattle.parts.specs.Live.{newly}
use Rattle.station.specs.Heard.{Stored, acknowledged, landed, acknowledge, strike_other, strike_heard, failed, nothing_more, receive, stored, handle, respond, heard, frame_rule}
use Rattle.station.specs.Timer.{unanswered, after_strike, silence, on_timer, timer_rule}
use Rattle.sent.specs.Resend.{token_again, renamed, resend}
use Rattle.station.specs.Queue.{accepted, queue_rule}
use Rattle.station.specs.Take.{taking, take_rule}
use Rattle.parts.specs.declared.list.Messages.{Messages}
use Rattle.parts.specs.declared.list.Which.TheVariants.{AnyWaiting}
use Rattle.parts.specs.declared.request.Request.{Request}
use Rattle.std.specs.Prelude.{Option, None, Some}
use Rattle.parts.specs.declared.frame.Frame.{Frame}
use Rattle.parts.specs.declared.frame.Frame.TheVariants.{Token, Transmit, Information}
use Rattle.parts.specs.declared.moves.Event.{Event}
use Rattle.parts.specs.declared.moves.State.{State}
use Rattle.parts.specs.declared.moves.State.TheVariants.{Idle, Alone, Excluded}
use Rattle.sent.specs.declared.round.Sight.{Sight}
use Rattle.sent.specs.declared.round.Bid.{Bid}
use Rattle.station.specs.declared.station.Station.{Station}
use Rattle.station.specs.declared.station.Answer.{Answer}
use Rattle.parts.proofs.Laws.Tests.{each_none}
use Rattle.parts.proofs.Laws.Queue.{queue_good}
use Rattle.station_theorems.specs.Small.{Small, SmallFrame, SmallDispatch, SmallHandled, SmallList}
use Rattle.station_theorems.proofs.Laws.Small.{SmallBest, pick_keeps, pick_keeps_if, split_small, push_small, best_small, add_small, next_small, start_small, reply_small, own_small}

module _ (n limit : ℕ) where
  -- ---- one field anew

  module _ (s : Station) (h : Small n limit s) where
    sends_small : (l : Messages) → SmallList l → Small n limit (with_sends s l)
    sends_small l e = record { n_is = h.n_is; limit_is = h.limit_is; sends = e; receives = h.receives; awaited = h.awaited; handled = h.handled; lost = h.lost; givenup = h.givenup }

    live_small : (p : ℕ) → Small n limit (strike s p)
    live_small p = record { n_is = h.n_is; limit_is = h.limit_is; sends = h.sends; receives = h.receives; awaited = h.awaited; handled = h.handled; lost = h.lost; givenup = h.givenup }

    leave_small : (p : ℕ) → Small n limit (leave s p)
    leave_small p = sends_small _ (split_small _ s.sends h.sends)

    head_small : SmallBest (head s)
    unfolding head
    head_small = best_small (AnyWaiting (flight (awaited_of s))) s.sends h.sends

  -- what a call's answer leaves, whatever stands before it
  moved_small : (s : Station) (e : Event) (a : Answer) → Small n limit s → Small n limit a.station → Small n limit (moved s e a).station
  unfolding moved
  moved_small s e a h k = pick_keeps (λ (x : Answer). Small n limit x.station) _ a _ k h

  unless_small : (s : Station) (number : ℕ) (a : Answer) → Small n limit s → (number ≡ 0 → Small n limit a.station) → Small n limit (unless s number a).station
  unfolding unless
  unless_small s number a h k = pick_keeps_if (λ (x : Answer). Small n limit x.station) (eqb number 0) a _ (λ e. k (eqb-true _ _ e)) h

  -- ---- giving up

  abbrev SmallLoss : Loss → Type 0
  SmallLoss l = Small n limit l.station

  abbrev SmallStruck : Struck → Type 0
  SmallStruck k = Small n limit k.station

  up_to_small : (s : Station) (p : ℕ) → Small n limit s → SmallLoss (give_up_to s p)
  unfolding give_up_to
  up_to_small s p h = sends_small s h _ (split_small _ s.sends h.sends)

  up_flight_small : (l : Loss) → SmallLoss l → SmallLoss (give_up_flight l)
  unfolding give_up_flight give_up_at
  up_flight_small l h =
      map_or_keeps SmallLoss _ (flight (awaited_of l.station)) l (λ p. map_or_keeps SmallLoss _ (message_at l.station p) l (λ m. leave_small l.station h p) h) h

  told_small : (l : Loss) (w : Option ℕ) → SmallLoss l → SmallStruck (told l w)
  told_small l w h =
      record {
        n_is = h.n_is;
        limit_is = h.limit_is;
        sends = h.sends;
        receives = h.receives;
        awaited = h.awaited;
        handled = h.handled;
        lost = h.lost;
        givenup = add_small l.station.counts.givenup l.gone.len h.givenup;
      }

  quiet_small : (s : Station) (st : State) → Small n limit s → Small n limit (quiet s st)
  quiet_small s st h = record { n_is = h.n_is; limit_is = h.limit_is; sends = h.sends; receives = h.receives; awaited = tt; handled = h.handled; lost = h.lost; givenup = h.givenup }

  sending_small : (s : Station) (j : Option ℕ) (d : Dispatch) → Small n limit s → SmallHandled j → SmallDispatch d → Small n limit (sending s j d)
  sending_small s j d h a b = record { n_is = h.n_is; limit_is = h.limit_is; sends = h.sends; receives = h.receives; awaited = b; handled = a; lost = h.lost; givenup = h.givenup }

  stopped_small : (l : Loss) (w : Option ℕ) (st : State) → SmallLoss l → SmallStruck (stopped l w st)
  stopped_small l w st h = quiet_small _ st (told_small (give_up_flight l) w (up_flight_small l h))

  -- ---- a heard frame

  acknowledge_small : (s : Station) (from k : ℕ) → Small n limit s → Small n limit (acknowledge s from k)
  unfolding acknowledge landed
  acknowledge_small s from k h =
      pick_keeps (Small n limit) (acknowledged s from k) _ s
      (quiet_small _ Idle (map_or_keeps (Small n limit) _ (flight (awaited_of s)) s (λ p. leave_small s h p) h))
      h

  other_small : (s : Station) (p : ℕ) (w : Option ℕ) → Small n limit s → SmallStruck (strike_other s p w)
  unfolding strike_other
  other_small s p w h =
      let l : Loss = give_up_to (strike s p) p in
      let h' = up_to_small (strike s p) p (live_small s h p) in
      pick_keeps SmallStruck (alone (strike s p)) _ _ (stopped_small l w Alone h') (told_small l w h')

  failed_small : (s : Station) (w : Option ℕ) → Small n limit s → SmallStruck (failed s w)
  unfolding failed strike_heard
  failed_small s None h = h
  failed_small s (Some p) h =
      pick_keeps SmallStruck (eqb p s.own) _ _ (stopped_small (nothing_gone (strike s p)) (newly s.live p) Excluded (live_small s h p))
      (other_small s p (newly s.live p) h)

  stored_small : (s : Station) (from : ℕ) (f : Frame) → Small n limit s → SmallFrame f → Small n limit (stored s from f).station
  unfolding stored receive
  stored_small s from (Token t) h q = h
  stored_small s from (Transmit t) h q = h
  stored_small s from (Information i) h q =
      pick_keeps (λ (t : Stored). Small n limit t.station) (leb 16 s.receives.len) _ _
      (record { n_is = h.n_is; limit_is = h.limit_is; sends = h.sends; receives = h.receives; awaited = h.awaited; handled = h.handled; lost = add_small s.counts.lost 1 h.lost; givenup = h.givenup })
      (record { n_is = h.n_is; limit_is = h.limit_is; sends = h.sends; receives = push_small s.receives _ h.receives q.priority; awaited = h.awaited; handled = h.handled; lost = h.lost; givenup = h.givenup })

  respond_small : (k : Struck) (from to : ℕ) (f : Frame) → SmallStruck k → SmallFrame f → Small n limit (respond k from to f).station
  unfolding respond handle
  respond_small k from to f h q =
      let t = stored_small k.station from f h q in
      pick_keeps (λ (x : Answer). Small n limit x.station) (nothing_more k.station to (number_of f)) _ _ h
      (sending_small _ (Some (number_of f)) _ t q.number (reply_small _ (head_small _ t) f q))

  pub frame_small : (s : Station) (f : Frame) (from to : ℕ) → Small n limit s → SmallFrame f → Small n limit (frame_rule s f from to).station
  unfolding frame_rule heard
  frame_small s f from to h q =
      moved_small s _ _ h
      (unless_small s _ _ h (λ z. respond_small _ from to f (failed_small _ (failing_of f) (acknowledge_small s from (number_of f) h)) q))

  -- ---- timer

  resend_small : (v : Sight) → SmallBest v.head → (to : ℕ) (f : Frame) → SmallFrame f → SmallDispatch (resend v to f)
  unfolding resend token_again renamed
  resend_small v h to (Token t) q = go (eqb t.master v.own) (not (live_at v.live t.master))
    where
      bid : (pick (eqb t.named to) (own_bid v) (bid_of t)).priority < 256
      bid = pick_keeps (λ (x : Bid). x.priority < 256) (eqb t.named to) _ _ (own_small v h (next t.number) (next_small t.number)) q.priority

      go : (a b : Bool)
          → SmallDispatch
          (first_of (forward v (next t.number) t (Some to) (pick (eqb t.named to) (own_bid v) (bid_of t)))
          ((a, start_round v (next t.number) (Some to)) ∷ (b, start_round v (next t.number) (Some to)) ∷ []))
      go true b = start_small v h (next t.number) (next_small t.number) _
      go false true = start_small v h (next t.number) (next_small t.number) _
      go false false = record { number = next_small t.number; priority = bid }
  resend_small v h to (Transmit t) q = start_small v h (next t.number) (next_small t.number) _
  resend_small v h to (Information i) q = start_small v h (next i.number) (next_small i.number) _

  unanswered_small : (s : Station) (to : ℕ) → Small n limit s → SmallStruck (unanswered s to)
  unfolding unanswered
  unanswered_small s to h =
      let l : Loss = give_up_to (strike s to) to in
      told_small (give_up_flight l) (newly s.live to) (up_flight_small l (up_to_small (strike s to) to (live_small s h to)))

  silence_small : (s : Station) (to : ℕ) (f : Frame) → Small n limit s → SmallFrame f → Small n limit (silence s to f).station
  unfolding silence after_strike
  silence_small s to f h q =
      let u = unanswered_small s to h in
      pick_keeps (λ (x : Answer). Small n limit x.station) (ltb s.turn.retries s.limit) _ _
      (record { n_is = h.n_is; limit_is = h.limit_is; sends = h.sends; receives = h.receives; awaited = h.awaited; handled = h.handled; lost = h.lost; givenup = h.givenup })
      (pick_keeps (λ (x : Answer). Small n limit x.station) (alone (unanswered s to).station) _ _ (quiet_small _ Alone u)
      (sending_small _ _ _ u u.handled (resend_small _ (head_small _ (quiet_small _ Idle u)) to f q)))

  on_timer_small : (s : Station) (d : Dispatch) → Small n limit s → SmallDispatch d → Small n limit (on_timer s d).station
  unfolding on_timer
  on_timer_small s None h q = h
  on_timer_small s (Some (f, to)) h q = silence_small s to f h q

  pub timer_small : (s : Station) → Small n limit s → Small n limit (timer_rule s).station
  unfolding timer_rule
  timer_small s h = moved_small s _ _ h (on_timer_small s (awaited_of s) h h.awaited)

  -- ---- start, queue and take

  pub start_keeps_small : (s : Station) → Small n limit s → Small n limit (start_rule s).station
  unfolding start_rule started
  start_keeps_small s h =
      moved_small s _ _ h
      (pick_keeps (λ (x : Answer). Small n limit x.station) (eqb s.own 0) _ _
      (sending_small s _ _ h h.handled (start_small _ (head_small s h) 0 (omega arith) None))
      (quiet_small s Idle h))

  pub queue_small : (s : Station) (q : Request) → Small n limit s → Small n limit (queue_rule s q).station
  unfolding queue_rule accepted
  queue_small s q h =
      moved_small s _ _ h
      (unless_small s _ _ h
      (λ z. sends_small s h _ (push_small s.sends _ h.sends (omega (arith, (queue_good s.n s.own (live_at s.live q.to) s.sends.len q z).priority_fits)))))

  pub take_small : (s : Station) (channel room : ℕ) → Small n limit s → Small n limit (take_rule s channel room).station
  unfolding take_rule taking
  take_small s channel room h =
      moved_small s _ _ h
      (unless_small s _ _ h
      (λ z. record { n_is = h.n_is; limit_is = h.limit_is; sends = h.sends; receives = split_small _ s.receives h.receives; awaited = h.awaited; handled = h.handled; lost = h.lost; givenup = h.givenup }))

pub made_small : (n limit own : ℕ) → Small n limit (made n limit own)
made_small n limit own =
    record {
      n_is = refl;
      limit_is = refl;
      sends = record { slots = refl; messages = each_none _ };
      receives = record { slots = refl; messages = each_none _ };
      awaited = tt;
      handled = tt;
      lost = omega arith;
      givenup = omega arith;
    }
