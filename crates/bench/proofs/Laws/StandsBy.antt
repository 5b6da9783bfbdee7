-- Laws of a station that a frame does not touch: step by step through the rule for a heard frame. Assumes nothing.
use mathlib.Core.Path.{◌≡◌, refl, ap, ◌∙◌}
use mathlib.Core.Bool.{Bool, true, false, not, false≢true}
use Prim.Native.Nat.{ℕ}
use lib.Dec.{eqb}
use Rattle.parts.specs.Choose.{pick}
use Rattle.parts.specs.Moves.{is_waiting}
use Rattle.parts.specs.Messages.{none}
use Rattle.parts.specs.Frames.{number_of, failing_of}
use Rattle.station.specs.Strike.{Struck}
use Rattle.station.specs.Stations.{state_of, answered, moved, unless}
use Rattle.station.specs.Heard.{acknowledged, acknowledge, failed, nothing_more, silent, respond, heard, checks, frame_rule}
use Rattle.parts.specs.declared.moves.Event.{Event}
use Rattle.std.specs.Prelude.{Option, None, Some}
use Rattle.parts.specs.declared.frame.Frame.{Frame}
use Rattle.station.specs.declared.station.Station.{Station}
use Rattle.station.specs.declared.station.Answer.{Answer}
use Rattle.bench.specs.Bystander.{Untouched}
use Rattle.parts.proofs.Laws.Choose.{pick_true, pick_false}
use Rattle.bench.specs.Delivery.{is_nobody}

-- what both sides of a choice have, the choice has
pub either : {A : Type 0} (P : A → Type 0) (b : Bool) (x y : A) → P x → P y → P (pick b x y)
unfolding pick
either P true x y p q = p
either P false x y p q = q

-- a number alone touches nobody
pub answered_untouched : (s : Station) (k : ℕ) → Untouched s (answered s k)
answered_untouched s k = record { same = refl; silent = refl }

-- where the call itself touches nobody, no refusal does
pub moved_untouched : (s : Station) (e : Event) (a : Answer) → Untouched s a → Untouched s (moved s e a)
unfolding moved
moved_untouched s e a u = either (Untouched s) _ _ _ u (answered_untouched s _)

pub unless_untouched : (s : Station) (k : ℕ) (a : Answer) → Untouched s a → Untouched s (unless s k a)
unfolding unless
unless_untouched s k a u = either (Untouched s) _ _ _ u (answered_untouched s _)

-- who does not wait is not acknowledged
pub unacknowledged : (s : Station) (from k : ℕ) → is_waiting (state_of s) ≡ false → acknowledge s from k ≡ s
unfolding acknowledge acknowledged
unacknowledged s from k w = pick_false _ _ (pick_false _ _ w)

-- with no failing station nobody is struck
abbrev pub unharmed : Station → Struck
unharmed s = record { station = s; struck = None; gone = none }

pub failed_nobody : (s : Station) (w : Option ℕ) → is_nobody w ≡ true → failed s w ≡ unharmed s
unfolding failed
failed_nobody s None e = refl
failed_nobody s (Some p) e = absurd (false≢true e)

-- a frame addressed elsewhere stops
pub elsewhere : (s : Station) (to k : ℕ) → not (eqb to s.own) ≡ true → nothing_more s to k ≡ true
unfolding nothing_more
elsewhere s to k e = rw e

pub respond_elsewhere : (k : Struck) (from to : ℕ) (f : Frame) → not (eqb to k.station.own) ≡ true → respond k from to f ≡ silent k
unfolding respond
respond_elsewhere k from to f e = pick_true _ _ (elsewhere k.station to (number_of f) e)

module _ (s : Station) (f : Frame) (from to : ℕ) (w : is_waiting (state_of s) ≡ false) (q : is_nobody (failing_of f) ≡ true) (e : not (eqb to s.own) ≡ true) where
  pub heard_by : heard s f from to ≡ silent (unharmed s)
  unfolding heard
  heard_by =
      ap (λ (t : Station). respond (failed t (failing_of f)) from to f) (unacknowledged s from (number_of f) w)
      ∙ ap (λ (k : Struck). respond k from to f) (failed_nobody s (failing_of f) q)
      ∙ respond_elsewhere (unharmed s) from to f e

  pub untouched : Untouched s (frame_rule s f from to)
  unfolding frame_rule
  untouched =
      moved_untouched s _ _
      (unless_untouched s (checks s from to) (heard s f from to)
      (rw heard_by (record { same = refl; silent = refl })))

-- the definition taken apart
pub not_first : {b c : Bool} → pick b false c ≡ true → (b ≡ false) × (c ≡ true)
unfolding pick
not_first {b} {c} = go b
  where
    go : (b : Bool) → pick b false c ≡ true → (b ≡ false) × (c ≡ true)
    go true e = absurd (false≢true e)
    go false e = (refl, e)
