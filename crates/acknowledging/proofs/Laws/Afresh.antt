-- No rule but the timer's looks at a retry count: with every count at 0 a heard frame, a queue call and a start give the same. Assumes nothing.
use mathlib.Core.Path.{◌≡◌, refl, sym, ap, ◌∙◌}
use mathlib.Core.Bool.{Bool, true, false}
use Prim.Native.Nat.{ℕ}
use lib.Dec.{leb, eqb}
use Rattle.std.specs.Option.{option_map_or}
use Rattle.parts.specs.Choose.{pick}
use Rattle.parts.specs.Messages.{pushed}
use Rattle.parts.specs.Frames.{number_of, failing_of, flight}
use Rattle.parts.specs.Live.{newly}
use Rattle.station.specs.Stations.{awaited_of, with_receives, with_lost, quiet, add_up_to, alone, head, answered, moved, unless, made}
use Rattle.station.specs.Strike.{Loss, Struck, strike, give_up_to, message_at, leave, give_up_at, give_up_flight, nothing_gone, told, stopped}
use Rattle.station.specs.Heard.{Stored, acknowledged, landed, acknowledge, strike_other, strike_heard, failed, nothing_more, heard_message, receive, stored, handle, silent, respond, heard, frame_rule, checks}
use Rattle.station.specs.Queue.{queue_number, accepted, queue_rule}
use Rattle.station.specs.Start.{started, start_rule}
use Rattle.parts.specs.declared.moves.State.{State}
use Rattle.parts.specs.declared.moves.State.TheVariants.{Idle, Alone, Excluded}
use Rattle.parts.specs.declared.moves.Event.{Event}
use Rattle.parts.specs.declared.moves.Event.TheVariants.{Heard, Queue}
use Rattle.parts.specs.declared.list.Message.{Message}
use Rattle.parts.specs.declared.request.Request.{Request}
use Rattle.std.specs.Prelude.{Option, None, Some}
use Rattle.parts.specs.declared.frame.Frame.{Frame}
use Rattle.parts.specs.declared.frame.Frame.TheVariants.{Token, Transmit, Information}
use Rattle.station.specs.declared.station.Station.{Station}
use Rattle.station.specs.declared.station.Answer.{Answer}
use Rattle.bench.proofs.Laws.StandsBy.{either}
use Rattle.acknowledging.specs.Missing.{fresh}

pub pick_through : {A B : Type 0} (F : A → B) (b : Bool) (x y : A) → F (pick b x y) ≡ pick b (F x) (F y)
unfolding pick
pick_through F true x y = refl
pick_through F false x y = refl

-- both ways of a choice changed
both_ways : {A : Type 0} (b : Bool) {x y x' y' : A} → x ≡ x' → y ≡ y' → pick b x y ≡ pick b x' y'
both_ways b e d = λ i. pick b (e i) (d i)

-- ---- what the rules make, with the retry count at 0

abbrev fresh_loss : Loss → Loss
fresh_loss l = record { station = fresh l.station; gone = l.gone }

abbrev fresh_struck : Struck → Struck
fresh_struck k = record { station = fresh k.station; struck = k.struck; gone = k.gone }

abbrev fresh_stored_lem : Stored → Stored
fresh_stored_lem t = record { station = fresh t.station; payload = t.payload }

abbrev pub fresh_answer : Answer → Answer
fresh_answer a = record { station = fresh a.station; number = a.number; sent = a.sent; struck = a.struck; gone = a.gone; payload = a.payload }

-- ---- acknowledgement

fresh_landed : (s : Station) → landed (fresh s) ≡ fresh (landed s)
unfolding landed
fresh_landed s = go (flight (awaited_of s))
  where
    go : (f : Option ℕ) → option_map_or (leave (fresh s)) f (fresh s) ≡ fresh (option_map_or (leave s) f s)
    go None = refl
    go (Some p) = refl

pub fresh_acknowledge : (s : Station) (from k : ℕ) → acknowledge (fresh s) from k ≡ fresh (acknowledge s from k)
unfolding acknowledge acknowledged
fresh_acknowledge s from k =
    both_ways (acknowledged s from k) (ap (λ (t : Station). quiet t Idle) (fresh_landed s)) refl
    ∙ sym (pick_through fresh (acknowledged s from k) (quiet (landed s) Idle) s)

-- ---- a failing station

fresh_up_to : (s : Station) (p : ℕ) → give_up_to (fresh s) p ≡ fresh_loss (give_up_to s p)
unfolding give_up_to
fresh_up_to s p = refl

fresh_up_at : (l : Loss) (p : ℕ) → give_up_at (fresh_loss l) p ≡ fresh_loss (give_up_at l p)
unfolding give_up_at
fresh_up_at l p = go (message_at l.station p)
  where
    up : Loss → Message → Loss
    up k m = record { station = leave k.station p; gone = pushed k.gone m }

    go : (b : Option Message) → option_map_or (up (fresh_loss l)) b (fresh_loss l) ≡ fresh_loss (option_map_or (up l) b l)
    go None = refl
    go (Some m) = refl

fresh_up_flight : (l : Loss) → give_up_flight (fresh_loss l) ≡ fresh_loss (give_up_flight l)
unfolding give_up_flight
fresh_up_flight l = go (flight (awaited_of l.station))
  where
    go : (f : Option ℕ) → option_map_or (give_up_at (fresh_loss l)) f (fresh_loss l) ≡ fresh_loss (option_map_or (give_up_at l) f l)
    go None = refl
    go (Some p) = fresh_up_at l p

fresh_stopped : (l : Loss) (w : Option ℕ) (st : State) → stopped (fresh_loss l) w st ≡ fresh_struck (stopped l w st)
fresh_stopped l w st =
    ap (λ (m : Loss). let k : Struck = record { station = quiet (told m w).station st; struck = w; gone = (told m w).gone } in k) (fresh_up_flight l)

fresh_other : (s : Station) (p : ℕ) (w : Option ℕ) → strike_other (fresh s) p w ≡ fresh_struck (strike_other s p w)
unfolding strike_other
fresh_other s p w =
    both_ways (alone (strike s p))
    (ap (λ (l : Loss). stopped l w Alone) (fresh_up_to (strike s p) p) ∙ fresh_stopped (give_up_to (strike s p) p) w Alone)
    (ap (λ (l : Loss). told l w) (fresh_up_to (strike s p) p))
    ∙ sym (pick_through fresh_struck (alone (strike s p)) (stopped (give_up_to (strike s p) p) w Alone) (told (give_up_to (strike s p) p) w))

fresh_heard_strike : (s : Station) (p : ℕ) → strike_heard (fresh s) p ≡ fresh_struck (strike_heard s p)
unfolding strike_heard
fresh_heard_strike s p =
    both_ways (eqb p s.own) (fresh_stopped (nothing_gone (strike s p)) (newly s.live p) Excluded) (fresh_other s p (newly s.live p))
    ∙ sym (pick_through fresh_struck (eqb p s.own) (stopped (nothing_gone (strike s p)) (newly s.live p) Excluded) (strike_other s p (newly s.live p)))

fresh_failed : (s : Station) (w : Option ℕ) → failed (fresh s) w ≡ fresh_struck (failed s w)
unfolding failed
fresh_failed s None = refl
fresh_failed s (Some p) = fresh_heard_strike s p

-- ---- what is sent

fresh_receive : (s : Station) (m : Message) → receive (fresh s) m ≡ fresh_stored_lem (receive s m)
unfolding receive
fresh_receive s m =
    sym
    (pick_through fresh_stored_lem (leb 16 s.receives.len)
    (record { station = with_lost s (add_up_to s.counts.lost 1); payload = None })
    (record { station = with_receives s (pushed s.receives m); payload = Some m }))

fresh_stored : (s : Station) (from : ℕ) (f : Frame) → stored (fresh s) from f ≡ fresh_stored_lem (stored s from f)
unfolding stored
fresh_stored s from (Token t) = refl
fresh_stored s from (Transmit t) = refl
fresh_stored s from (Information i) = fresh_receive s (heard_message s from i)

fresh_handle : (k : Struck) (t : Stored) (f : Frame) → handle (fresh_struck k) (fresh_stored_lem t) f ≡ fresh_answer (handle k t f)
unfolding handle head
fresh_handle k t f = refl

fresh_respond : (k : Struck) (from to : ℕ) (f : Frame) → respond (fresh_struck k) from to f ≡ fresh_answer (respond k from to f)
unfolding respond nothing_more
fresh_respond k from to f =
    both_ways (nothing_more k.station to (number_of f)) refl
    (ap (λ (t : Stored). handle (fresh_struck k) t f) (fresh_stored k.station from f) ∙ fresh_handle k (stored k.station from f) f)
    ∙ sym (pick_through fresh_answer (nothing_more k.station to (number_of f)) (silent k) (handle k (stored k.station from f) f))

-- ---- the calls

fresh_moved : (s : Station) (e : Event) (a : Answer) → moved (fresh s) e (fresh_answer a) ≡ fresh_answer (moved s e a)
unfolding moved
fresh_moved s e a = sym (pick_through fresh_answer _ a (answered s _))

fresh_unless : (s : Station) (k : ℕ) (a : Answer) → unless (fresh s) k (fresh_answer a) ≡ fresh_answer (unless s k a)
unfolding unless
fresh_unless s k a = sym (pick_through fresh_answer (eqb k 0) a (answered s k))

fresh_heard : (s : Station) (f : Frame) (from to : ℕ) → heard (fresh s) f from to ≡ fresh_answer (heard s f from to)
unfolding heard
fresh_heard s f from to =
    ap (λ (t : Station). respond (failed t (failing_of f)) from to f) (fresh_acknowledge s from (number_of f))
    ∙ ap (λ (k : Struck). respond k from to f) (fresh_failed (acknowledge s from (number_of f)) (failing_of f))
    ∙ fresh_respond (failed (acknowledge s from (number_of f)) (failing_of f)) from to f

pub fresh_frame : (s : Station) (f : Frame) (from to : ℕ) → frame_rule (fresh s) f from to ≡ fresh_answer (frame_rule s f from to)
unfolding frame_rule
fresh_frame s f from to =
    ap (λ (a : Answer). moved (fresh s) Heard (unless (fresh s) (checks s from to) a)) (fresh_heard s f from to)
    ∙ ap (moved (fresh s) Heard) (fresh_unless s (checks s from to) (heard s f from to))
    ∙ fresh_moved s Heard (unless s (checks s from to) (heard s f from to))

pub fresh_queue : (s : Station) (q : Request) → queue_rule (fresh s) q ≡ fresh_answer (queue_rule s q)
unfolding queue_rule accepted
fresh_queue s q =
    ap (moved (fresh s) Queue) (fresh_unless s (queue_number s q) (accepted s q))
    ∙ fresh_moved s Queue (unless s (queue_number s q) (accepted s q))

pub fresh_start : (n limit p : ℕ) → fresh (start_rule (made n limit p)).station ≡ (start_rule (made n limit p)).station
unfolding start_rule started moved pick
fresh_start n limit p = either (λ (a : Answer). fresh a.station ≡ a.station) (eqb p 0) _ _ refl refl
