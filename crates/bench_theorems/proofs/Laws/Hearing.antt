-- Laws of a member that hears a frame with no failing station from another member: it is never refused, and either stays silent or
-- answers by its rule. Assumes nothing.
use mathlib.Core.Path.{◌≡◌, refl, sym, ap, subst, ◌∙◌}
use mathlib.Core.Bool.{Bool, true, false, not}
use mathlib.Core.List.{[], ◌∷◌}
use Prim.Native.Nat.{ℕ, ◌<◌, ◌≤◌}
use lib.Dec.{leb, eqb}
use borrow.Author.Tests.{lt-leb, eq-eqb, ne_eqb}
use Rattle.codec.proofs.Laws.Order.{first_passed}
use Rattle.parts.specs.Choose.{pick}
use Rattle.parts.specs.Moves.{is_idle}
use Rattle.parts.specs.Messages.{pushed}
use Rattle.parts.specs.Live.{live_at}
use Rattle.parts.specs.Frames.{number_of, failing_of, fit}
use Rattle.station.specs.Stations.{state_of, with_receives, with_lost, add_up_to}
use Rattle.station.specs.Sight.{sight}
use Rattle.sent.specs.Round.{reply}
use Rattle.station.specs.Heard.{Stored, acknowledge, is_last, nothing_more, heard_message, receive, stored, send_on, silent, respond, frame_rule, checks}
use Rattle.parts.specs.Refusals.{heard_refusal}
use Rattle.parts.specs.declared.moves.State.TheVariants.{Idle}
use Rattle.parts.specs.declared.list.Message.{Message}
use Rattle.std.specs.Prelude.{None, Some}
use Rattle.parts.specs.declared.frame.Frame.{Frame}
use Rattle.parts.specs.declared.frame.Frame.TheVariants.{Token, Transmit, Information}
use Rattle.station.specs.declared.station.Station.{Station}
use Rattle.station.proofs.Laws.Heard.{responds, handles, hears, frame_runs}
use Rattle.bench.specs.Delivery.{is_nobody}
use Rattle.bench.proofs.Laws.StandsBy.{unharmed, failed_nobody, respond_elsewhere}
use Rattle.bench_theorems.specs.Quiet.{Member}
use Rattle.bench_theorems.proofs.Laws.FullSet.{full_live}
use Rattle.bench_theorems.proofs.Laws.Listening.{Listens, listens_runs, rested}

-- ---- the parts

-- the checks pass
checks_pass : (n own : ℕ) (alive : Bool) (from to : ℕ) → from < n → to < n → (from ≡ to → ⊥) → alive ≡ true → (from ≡ own → ⊥)
    → heard_refusal n own alive from to ≡ 0
unfolding heard_refusal
checks_pass n own alive from to a b c d e =
    first_passed 0 ((leb n from, 13) ∷ (leb n to, 13) ∷ (eqb from to, 13) ∷ (not alive, 13) ∷ (eqb from own, 13) ∷ [])
    (lt-leb n from a, (lt-leb n to b, (ne_eqb from to c, (ap not d, (ne_eqb from own e, tt)))))

-- addressed here, another number than the last, and Idle: the frame is handled
goes_on : (s : Station) (to k : ℕ) → to ≡ s.own → is_last s.turn.handled k ≡ false → state_of s ≡ Idle → nothing_more s to k ≡ false
unfolding nothing_more
goes_on s to k a b i =
    first_passed false ((not (eqb to s.own), true) ∷ (is_last s.turn.handled k, true) ∷ (not (is_idle (state_of s)), true) ∷ [])
    (ap not (eq-eqb to s.own a), (b, (ap (λ st. not (is_idle st)) i, tt)))

-- what is stored changes no more than the receive list, or the count of those lost
pub record Storing (s t : Station) : Type 0 where
  pub same_n : t.n ≡ s.n
  pub same_limit : t.limit ≡ s.limit
  pub same_own : t.own ≡ s.own
  pub same_live : t.live ≡ s.live
  pub same_sends : t.sends ≡ s.sends
  pub same_turn : t.turn ≡ s.turn

receive_storing : (s : Station) (m : Message) → Storing s (receive s m).station
unfolding receive pick
receive_storing s m = go (leb 16 s.receives.len)
  where
    go : (b : Bool)
        → Storing s
        (pick {A = Stored} b
        (record { station = with_lost s (add_up_to s.counts.lost 1); payload = None })
        (record { station = with_receives s (pushed s.receives m); payload = Some m })
        ).station
    go true = record { same_n = refl; same_limit = refl; same_own = refl; same_live = refl; same_sends = refl; same_turn = refl }
    go false = record { same_n = refl; same_limit = refl; same_own = refl; same_live = refl; same_sends = refl; same_turn = refl }

pub stored_storing : (s : Station) (from : ℕ) (f : Frame) → Storing s (stored s from f).station
unfolding stored
stored_storing s from (Token t) = record { same_n = refl; same_limit = refl; same_own = refl; same_live = refl; same_sends = refl; same_turn = refl }
stored_storing s from (Transmit t) = record { same_n = refl; same_limit = refl; same_own = refl; same_live = refl; same_sends = refl; same_turn = refl }
stored_storing s from (Information i) = receive_storing s (heard_message s from i)

-- ---- the frame heard

-- a member at p hears a frame with no failing station from another member, Idle or acknowledged by it
pub record Hears (n limit p : ℕ) (s : Station) (f : Frame) (from to : ℕ) : Type 0 where
  pub some_members : 2 ≤ n
  pub most_members : n ≤ 64
  pub place : p < n
  pub member : Member n limit p s
  pub listens : Listens from (number_of f) s
  pub sender : from < n
  pub addressee : to < n
  pub apart : from ≡ to → ⊥
  pub another : from ≡ p → ⊥
  pub nobody : failing_of f ≡ None
  pub fits : fit n f ≡ true

module _ {n limit p : ℕ} {s : Station} {f : Frame} {from to : ℕ} (h : Hears n limit p s f from to) where
  -- the station once it is acknowledged
  abbrev t : Station
  t = acknowledge s from (number_of f)

  passes : checks s from to ≡ 0
  passes =
      subst (λ (k : ℕ). heard_refusal k s.own (live_at s.live from) from to ≡ 0) (sym h.member.same_n)
      (checks_pass n s.own (live_at s.live from) from to h.sender h.addressee h.apart
      (ap (λ l. live_at l from) h.member.live ∙ full_live n from h.most_members h.sender) (λ q. h.another (q ∙ h.member.own)))

  pub heard_is : frame_rule s f from to ≡ respond (unharmed t) from to f
  heard_is =
      frame_runs s f from to (listens_runs h.listens) passes
      ∙ sym (hears s f from to (number_of f) t (failing_of f) (unharmed t) refl refl refl (sym (failed_nobody t (failing_of f) (ap is_nobody h.nobody))))

  -- not addressed: nothing more than the acknowledgement
  pub silent_is : (to ≡ p → ⊥) → frame_rule s f from to ≡ silent (unharmed (acknowledge s from (number_of f)))
  silent_is o =
      heard_is ∙ respond_elsewhere (unharmed t) from to f (ap not (ne_eqb to t.own (λ q. o (q ∙ (rested h.listens).seat.same_own ∙ h.member.own))))

  -- addressed: the reply of its rule
  pub answer_is : to ≡ p → is_last s.turn.handled (number_of f) ≡ false
      → frame_rule s f from to
      ≡ send_on (unharmed (acknowledge s from (number_of f))) (stored (acknowledge s from (number_of f)) from f) (number_of f)
      (reply (sight (stored (acknowledge s from (number_of f)) from f).station) f)
  answer_is e l =
      let r = rested h.listens in
      let u : Stored = stored t from f in
      heard_is
      ∙ sym (responds (unharmed t) from to f (number_of f) u refl
      (goes_on t to (number_of f) (e ∙ sym (r.seat.same_own ∙ h.member.own)) (ap (λ x. is_last x (number_of f)) r.seat.same_handled ∙ l) r.at_rest)
      refl)
      ∙ sym (handles (unharmed t) u f (number_of f) (sight u.station) (reply (sight u.station) f) refl refl refl)
