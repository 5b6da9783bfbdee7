-- What a member of a quiet ring answers: the addressee its reply, everybody else nothing. Assumes nothing.
use mathlib.Core.Path.{◌≡◌, refl, sym, ap, subst, ◌∙◌}
use mathlib.Core.Bool.{false}
use Prim.Native.Nat.{ℕ, ◌<◌, ◌≤◌}
use Rattle.parts.specs.Messages.{none}
use Rattle.parts.specs.Live.{full, after, successor}
use Rattle.parts.specs.Frames.{number_of, fit, flight}
use Rattle.parts.specs.declared.list.Message.{Message}
use Rattle.station.specs.Stations.{state_of, awaited_of, head}
use Rattle.station.specs.Sight.{sight}
use Rattle.sent.specs.Round.{reply}
use Rattle.station.specs.Heard.{acknowledge, is_last, stored, frame_rule}
use Rattle.parts.specs.declared.moves.State.TheVariants.{Idle, Waiting}
use Rattle.std.specs.Prelude.{Option, None, Some}
use Rattle.parts.specs.declared.frame.Frame.{Frame}
use Rattle.station.specs.declared.station.Turn.{Turn}
use Rattle.station.specs.declared.station.Station.{Station}
use Rattle.station.specs.declared.station.Answer.{Answer}
use Rattle.sent.specs.declared.round.Sight.{Sight}
use Rattle.station_theorems.specs.Shaped.{WholeStation}
use Rattle.station_theorems.proofs.Theorems.FrameWhole.{frame_keeps_whole}
use Rattle.bench_theorems.specs.Quiet.{Member}
use Rattle.bench_theorems.proofs.Laws.FullSet.{full_successor}
use Rattle.bench_theorems.proofs.Laws.Listening.{rested}
use Rattle.bench_theorems.proofs.Laws.Heads.{head_acknowledged, rested_flight, head_same}
use Rattle.bench_theorems.proofs.Laws.Hearing.{stored_storing, Hears, silent_is, answer_is}

-- what a member at p with the head h looks at: all are live, and its successor is the next place
abbrev pub view : ℕ → ℕ → Option Message → Sight
view n p h = record { own = p; live = full n; next = after n p; head = h }

-- nothing is sent, and the station is Idle
pub record Silent (n limit p : ℕ) (s : Station) (a : Answer) : Type 0 where
  pub number : a.number ≡ 0
  pub sent : a.sent ≡ None
  pub nobody_struck : a.struck ≡ None
  pub none_gone : a.gone ≡ none
  pub member : Member n limit p a.station
  pub at_rest : state_of a.station ≡ Idle
  pub same_handled : a.station.turn.handled ≡ s.turn.handled
  pub same_head : head a.station ≡ head s

-- the reply is sent and awaited, and the frame is recorded as handled
pub record Answering (n limit p : ℕ) (f : Frame) (s : Station) (a : Answer) : Type 0 where
  pub number : a.number ≡ 0
  pub sent : a.sent ≡ reply (view n p (head s)) f
  pub nobody_struck : a.struck ≡ None
  pub none_gone : a.gone ≡ none
  pub member : Member n limit p a.station
  pub waiting : state_of a.station ≡ Waiting
  pub awaited : awaited_of a.station ≡ a.sent
  pub handled : a.station.turn.handled ≡ Some (number_of f)
  pub same_head : flight a.sent ≡ None → head a.station ≡ head s

sight_view : (n p : ℕ) (h : Option Message) (s : Station) → 2 ≤ n → n ≤ 64 → p < n → s.n ≡ n → s.own ≡ p → s.live ≡ full n → head s ≡ h → sight s ≡ view n p h
sight_view n p h s two most m a b c d =
    let next : successor s.live s.n s.own ≡ after n p = rw (c, a, b) (full_successor n p two most m) in
    λ i. record { own = b i; live = c i; next = next i; head = d i }

module _ {n limit p : ℕ} {s : Station} {f : Frame} {from to : ℕ} (h : Hears n limit p s f from to) where
  kept_whole : WholeStation (frame_rule s f from to).station
  kept_whole = frame_keeps_whole s f from to (ap (λ (k : ℕ). fit k f) h.member.same_n ∙ h.fits) h.member.whole

  pub stays_silent : (to ≡ p → ⊥) → Silent n limit p s (frame_rule s f from to)
  stays_silent o =
      let e = silent_is h o in
      let r = rested h.listens in
      subst (Silent n limit p s) (sym e)
      (record {
        number = refl;
        sent = refl;
        nobody_struck = refl;
        none_gone = refl;
        member =
            record {
              same_n = r.seat.same_n ∙ h.member.same_n;
              same_limit = r.seat.same_limit ∙ h.member.same_limit;
              own = r.seat.same_own ∙ h.member.own;
              live = r.seat.same_live ∙ h.member.live;
              whole = subst (λ (a : Answer). WholeStation a.station) e kept_whole;
            };
        at_rest = r.at_rest;
        same_handled = r.seat.same_handled;
        same_head = head_acknowledged h.listens;
      })

  pub gives_answer : to ≡ p → is_last s.turn.handled (number_of f) ≡ false → Answering n limit p f s (frame_rule s f from to)
  gives_answer q l =
      let e = answer_is h q l in
      let t : Station = acknowledge s from (number_of f) in
      let r = rested h.listens in
      let u = stored_storing t from f in
      let n_is = u.same_n ∙ r.seat.same_n ∙ h.member.same_n in
      let own_is = u.same_own ∙ r.seat.same_own ∙ h.member.own in
      let live_is = u.same_live ∙ r.seat.same_live ∙ h.member.live in
      let same_flight : flight (awaited_of (stored t from f).station) ≡ flight (awaited_of t) = ap (λ (x : Turn). flight x.awaited) u.same_turn in
      let head_is : head (stored t from f).station ≡ head s =
      head_same t (stored t from f).station u.same_sends same_flight ∙ head_acknowledged h.listens in
      subst (Answering n limit p f s) (sym e)
      (record {
        number = refl;
        sent = ap (λ (v : Sight). reply v f) (sight_view n p (head s) (stored t from f).station h.some_members h.most_members h.place n_is own_is live_is head_is);
        nobody_struck = refl;
        none_gone = refl;
        member =
            record {
              same_n = n_is;
              same_limit = u.same_limit ∙ r.seat.same_limit ∙ h.member.same_limit;
              own = own_is;
              live = live_is;
              whole = subst (λ (a : Answer). WholeStation a.station) e kept_whole;
            };
        waiting = refl;
        awaited = refl;
        handled = refl;
        same_head = λ x. head_same (stored t from f).station _ refl (x ∙ sym (same_flight ∙ rested_flight h.listens h.member.whole)) ∙ head_is;
      })
