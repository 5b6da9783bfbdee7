-- An addressee struck earlier on hearing is resent to in the same way as a live one, and the last timer then strikes nobody new. Assumes nothing.
use mathlib.Core.Path.{◌≡◌, refl, ap, ◌∙◌}
use mathlib.Core.Bool.{Bool, true, false, not}
use mathlib.Core.List.{[], ◌∷◌}
use Prim.Native.Nat.{ℕ, ◌<◌, ◌≤◌}
use lib.Dec.{eqb}
use borrow.Author.Tests.{ne_eqb}
use Rattle.codec.specs.Order.{first_of}
use Rattle.parts.specs.Moves.{move_of}
use Rattle.parts.specs.Live.{live_at}
use Rattle.parts.specs.Frames.{number_of}
use Rattle.station.specs.Stations.{state_of, alone}
use Rattle.station.specs.Strike.{Struck, strike, give_up_to, told}
use Rattle.parts.specs.Live.{newly}
use Rattle.station.specs.Heard.{acknowledged, acknowledge, strike_other, strike_heard, failed, is_last, nothing_more, respond, heard, frame_rule, silent}
use Rattle.station.specs.Timer.{unanswered, after_strike, timer_rule}
use Rattle.parts.specs.declared.moves.State.TheVariants.{Waiting}
use Rattle.parts.specs.declared.moves.Event.TheVariants.{Heard}
use Rattle.std.specs.Prelude.{None, Some}
use Rattle.parts.specs.declared.frame.Frame.{Frame}
use Rattle.station.specs.declared.station.Station.{Station}
use Rattle.station.specs.declared.station.Turn.{Turn}
use Rattle.parts.proofs.Laws.Choose.{pick_true, pick_false}
use Rattle.station.proofs.Laws.Heard.{frame_runs}
use Rattle.station.proofs.Laws.Timer.{timer_again, timer_last}
use Rattle.station_theorems.specs.Resent.{Awaits, SentAgain, NobodyNew, NamesAddressee, StillAwaits}
use Rattle.station_theorems.specs.Striking.{LastTimer}
use Rattle.station_theorems.proofs.Laws.Telling.{struck_not_live, newly_not, gives_up_to}
use Rattle.station_theorems.proofs.Theorems.Striking.{timer_strikes, timer_strikes_addressee}

-- ---- below the limit, whether or not the addressee is live

pub sent_again : (s : Station) (f : Frame) (to : ℕ) → Awaits s f to → s.turn.retries < s.limit → SentAgain s f to (timer_rule s)
sent_again s f to w h =
    rw (timer_again s f to w.waits w.awaits h)
    (record {
      sent_same = w.awaits;
      still_awaits = record { waits = w.waits; awaits = w.awaits };
      one_retry_more = refl;
      nobody_told = refl;
      none_given_up = refl;
      live_same = refl;
    })

-- ---- at the limit, whether or not the addressee is live

-- what happens is by one definition, which asks of the addressee only whether it is newly struck
pub last_timer : (s : Station) (f : Frame) (to : ℕ) → Awaits s f to → s.limit ≤ s.turn.retries → timer_rule s ≡ after_strike (unanswered s to) to f
last_timer s f to w h = timer_last s f to w.waits w.awaits h

-- an addressee that is not live is not struck again
pub strikes_nobody_new : (s : Station) (f : Frame) (to : ℕ) → Awaits s f to → s.limit ≤ s.turn.retries → live_at s.live to ≡ false
    → NobodyNew s (timer_rule s)
strikes_nobody_new s f to w h dead =
    let h' : LastTimer s to = record { waits = w.waits; frame = f; awaits = w.awaits; last = h } in
    let nobody : (timer_rule s).struck ≡ None = (timer_strikes_addressee s to h').told_if_live ∙ newly_not s.live to dead in
    record { nobody_told = nobody; live_same = (timer_strikes s).nobody_leaves nobody }

-- ---- an addressee struck on hearing: the station still awaits the frame to it

-- a Waiting station does nothing more on a heard frame
pub waiting_stops : (s : Station) (to k : ℕ) → state_of s ≡ Waiting → nothing_more s to k ≡ true
unfolding nothing_more
waiting_stops s to k e =
    rw e (go (not (eqb to s.own)) (is_last s.turn.handled k))
  where
    go : (a b : Bool) → first_of false ((a, true) ∷ (b, true) ∷ (true, true) ∷ []) ≡ true
    go true b = refl
    go false true = refl
    go false false = refl

not_acknowledged : (s : Station) (from k : ℕ) → acknowledged s from k ≡ false → acknowledge s from k ≡ s
unfolding acknowledge
not_acknowledged s from k n = pick_false _ _ n

struck_other : (s : Station) (p : ℕ) → (p ≡ s.own → ⊥) → alone (strike s p) ≡ false
    → failed s (Some p) ≡ told (give_up_to (strike s p) p) (newly s.live p)
unfolding failed strike_heard strike_other
struck_other s p o l = pick_false _ _ (ne_eqb _ _ o) ∙ pick_false _ _ l

pub struck_on_hearing : (s : Station) (f : Frame) (to : ℕ) (g : Frame) (from at : ℕ) → Awaits s f to → NamesAddressee s g from at to
    → StillAwaits s f to (frame_rule s g from at)
unfolding heard respond
struck_on_hearing s f to g from at w h =
    let k : Struck = told (give_up_to (strike s to) to) (newly s.live to) in
    let kept = gives_up_to (strike s to) to in
    let turn : k.station.turn ≡ s.turn = ap (λ (t : Station). t.turn) kept in
    let runs_here : frame_rule s g from at ≡ heard s g from at = frame_runs s g from at (ap (λ st. move_of st Heard) w.waits) h.passed in
    let strikes_it : heard s g from at ≡ respond k from at g =
    rw (not_acknowledged s from (number_of g) h.no_acknowledgement, h.failing_is, struck_other s to h.another h.others_left) in
    let stops : respond k from at g ≡ silent k = pick_true _ _ (waiting_stops k.station at (number_of g) (ap (λ (t : Turn). t.state) turn ∙ w.waits)) in
    rw (runs_here ∙ strikes_it ∙ stops)
    (record {
      awaits_it = record { waits = ap (λ (t : Turn). t.state) turn ∙ w.waits; awaits = ap (λ (t : Turn). t.awaited) turn ∙ w.awaits };
      turn_same = turn;
      nothing_sent = refl;
      struck_now = ap (λ (t : Station). live_at t.live to) kept ∙ struck_not_live s.live to;
    })
