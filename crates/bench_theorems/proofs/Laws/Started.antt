-- What each member of a new ring answers to its start: station 0 sends the first token, the others become Idle. Assumes nothing.
use mathlib.Core.Path.{◌≡◌, refl, sym, ap, subst, ◌∙◌}
use mathlib.Core.Bool.{Bool, true, false}
use Prim.Native.Nat.{ℕ, ◌<◌, ◌≤◌}
use native.Mathlib.Omega.{arith}
use lib.Dec.{eqb}
use borrow.Author.Tests.{eqb-true, eqb-false, ne_eqb}
use Rattle.parts.specs.Choose.{pick}
use Rattle.parts.specs.Messages.{best, best_of}
use Rattle.parts.specs.Live.{after}
use Rattle.station.specs.Stations.{made, quiet, answered, head}
use Rattle.station.specs.Sight.{sight}
use Rattle.sent.specs.Round.{opening, start_round}
use Rattle.station.specs.Start.{sent_first, started, start_rule}
use Rattle.parts.specs.declared.moves.State.TheVariants.{Idle}
use Rattle.parts.specs.declared.moves.Event.TheVariants.{Start}
use Rattle.std.specs.Prelude.{None, Some}
use Rattle.parts.specs.declared.frame.Frame.{Frame}
use Rattle.parts.specs.declared.frame.Frame.TheVariants.{Token}
use Rattle.parts.specs.Frames.{Dispatch}
use Rattle.station.specs.declared.station.Answer.{Answer}
use Rattle.parts.proofs.Laws.Choose.{pick_true, pick_false}
use Rattle.station.proofs.Laws.Moved.{moved_runs}
use Rattle.station_theorems.specs.Shaped.{WholeStation}
use Rattle.station_theorems.proofs.Theorems.MadeWhole.{made_whole}
use Rattle.station_theorems.proofs.Theorems.StartWhole.{start_keeps_whole}
use Rattle.bench.specs.Ring.{first_answer}
use Rattle.bench_theorems.specs.Quiet.{Member, Stands, sender, at_rest}
use Rattle.bench_theorems.proofs.Laws.FullSet.{full_successor}

-- "Station 0 starts a round with frame number 0"
abbrev pub first_frame : Frame
first_frame = Token (opening 0 0 0 None)

module _ (n limit : ℕ) (two : 2 ≤ n) (most : n ≤ 64) where
  starts : (p : ℕ) → first_answer n limit p ≡ started (made n limit p)
  unfolding start_rule
  starts p = moved_runs (made n limit p) Start (started (made n limit p)) refl refl

  first_round : start_round (sight (made n limit 0)) 0 None ≡ Some (first_frame, after n 0)
  unfolding start_round head best best_of pick
  first_round = ap (λ (q : ℕ). let d : Dispatch = Some (first_frame, q) in d) (full_successor n 0 two most (omega arith))

  starts_first : first_answer n limit 0 ≡ sent_first (made n limit 0) (Some (first_frame, after n 0))
  unfolding started
  starts_first = starts 0 ∙ pick_true _ _ refl ∙ ap (sent_first (made n limit 0)) first_round

  pub starts_idle : (p : ℕ) → (p ≡ 0 → ⊥) → first_answer n limit p ≡ answered (quiet (made n limit p) Idle) 0
  unfolding started
  starts_idle p o = starts p ∙ pick_false _ _ (ne_eqb p 0 o)

  pub first_sent : (first_answer n limit 0).sent ≡ Some (first_frame, after n 0)
  first_sent = ap (λ (a : Answer). a.sent) starts_first

  -- a member as it starts
  pub record Begun (p : ℕ) (a : Answer) : Type 0 where
    pub number : a.number ≡ 0
    pub member : Member n limit p a.station
    pub stands : Stands 0 0 first_frame (after n 0) p a.station
    pub handled : a.station.turn.handled ≡ None

  pub begun : 1 ≤ limit → limit ≤ 15 → (p : ℕ) → p < n → Begun p (first_answer n limit p)
  begun low high p h = go (eqb p 0) refl
    where
      whole : WholeStation (first_answer n limit p).station
      whole = start_keeps_whole (made n limit p) (made_whole n limit p two most low high h)

      go : (t : Bool) → eqb p 0 ≡ t → Begun p (first_answer n limit p)
      go true e =
          let z : p ≡ 0 = eqb-true p 0 e in
          let is : first_answer n limit p ≡ sent_first (made n limit p) (Some (first_frame, after n 0)) =
          ap (first_answer n limit) z ∙ starts_first ∙ ap (λ (i : ℕ). sent_first (made n limit i) (Some (first_frame, after n 0))) (sym z) in
          subst (Begun p) (sym is)
          (record {
            number = refl;
            member =
                record {
                  same_n = refl;
                  same_limit = refl;
                  own = refl;
                  live = refl;
                  whole = subst (λ (a : Answer). WholeStation a.station) is whole;
                };
            stands = sender z refl refl;
            handled = refl;
          })
      go false e =
          let o : p ≡ 0 → ⊥ = eqb-false p 0 e in
          let is : first_answer n limit p ≡ answered (quiet (made n limit p) Idle) 0 = starts_idle p o in
          subst (Begun p) (sym is)
          (record {
            number = refl;
            member =
                record {
                  same_n = refl;
                  same_limit = refl;
                  own = refl;
                  live = refl;
                  whole = subst (λ (a : Answer). WholeStation a.station) is whole;
                };
            stands = at_rest o o refl;
            handled = refl;
          })
