-- Laws of the message's own frame: which it is, and what a step that composes it ends. Assumes nothing.
use mathlib.Core.Path.{◌≡◌, refl, ap}
use mathlib.Core.Bool.{Bool, true, false, ◌&&◌}
use mathlib.Core.List.{List, [], ◌∷◌, ◌++◌}
use Prim.Native.Nat.{ℕ}
use lib.Dec.{eqb}
use borrow.Author.Tests.{eqb-true, eq-eqb}
use Rattle.parts.specs.Frames.{flight_in}
use Rattle.sent.specs.Round.{information_of}
use Rattle.parts.specs.declared.list.Message.{Message}
use Rattle.parts.specs.declared.frame.Frame.{Frame}
use Rattle.std.specs.Prelude.{Option, None, Some}
use Rattle.parts.proofs.Laws.Choose.{pick_true, pick_false}
use Rattle.bench.specs.Delivery.{step}
use Rattle.bench.specs.Rows.{rows_on}
use Rattle.bench.specs.Runs.{Event, stepped}
use Rattle.bench.specs.declared.ring.Bench.{Bench}
use Rattle.waiting.specs.Waiting.{Spot, own, before, goes, is_at}

-- ---- whose the frame on the wire is

pub own_sent : (x : Spot) (m : Message) (number : ℕ) → m.place ≡ x.place → own x (record { from = x.station; sent = information_of number m }) ≡ true
unfolding own
own_sent x m number e = rw (eq-eqb x.station x.station refl, eq-eqb m.place x.place e)

-- a frame from another station, or one that is not information, is not its own
pub own_not : (x : Spot) (p : ℕ) (f : Frame) (to : ℕ) → (p ≡ x.station → flight_in f ≡ None) → own x (record { from = p; sent = Some (f, to) }) ≡ false
unfolding own
own_not x p f to w = go (eqb p x.station) refl
  where
    go : (t : Bool) → eqb p x.station ≡ t → (t && is_at (flight_in f) x.place) ≡ false
    go true e = ap (λ (l : Option ℕ). is_at l x.place) (w (eqb-true p x.station e))
    go false e = refl

-- ---- a step that composes it, and one that does not

module _ (x : Spot) (b : Bench) (es : List Event) where
  pub before_own : own x (step b).wire ≡ true → before x b (stepped ∷ es) ≡ []
  unfolding before
  before_own e = pick_true _ _ e

  pub before_another : own x (step b).wire ≡ false → before x b (stepped ∷ es) ≡ rows_on (step b).wire ++ before x (step b) es
  unfolding before
  before_another e = pick_false _ _ e

  pub goes_own : own x (step b).wire ≡ true → goes x b (stepped ∷ es) ≡ true
  unfolding goes
  goes_own e = pick_true _ _ e

  pub goes_another : own x (step b).wire ≡ false → goes x b (stepped ∷ es) ≡ goes x (step b) es
  unfolding goes
  goes_another e = pick_false _ _ e
