-- What is counted before the message's own frame: all that the run composes until then. Of any bench, any spot and any run. Assumes nothing.
use mathlib.Core.Path.{◌≡◌, refl, sym, ap, ◌∙◌}
use mathlib.Core.Bool.{Bool, true, false, false≢true}
use mathlib.Core.List.{List, [], ◌∷◌, ◌++◌}
use Rattle.bench.specs.Delivery.{step}
use Rattle.bench.specs.Rows.{rows_on}
use Rattle.bench.specs.Runs.{Event, stepped, queued, after_event, composed, final, frames}
use Rattle.bench.specs.declared.ring.Bench.{Bench}
use Rattle.bench.specs.declared.rows.Row.{Row}
use Rattle.waiting.specs.Waiting.{Spot, own, before, goes, GoesAt}
use Rattle.waiting.proofs.Laws.Own.{before_own, before_another, goes_own, goes_another}

module _ (x : Spot) where
  -- as long as it does not go, every frame composed is counted
  pub before_all : (es : List Event) (b : Bench) → goes x b es ≡ false → before x b es ≡ frames b es
  unfolding before goes frames composed after_event
  before_all [] b g = refl
  before_all (stepped ∷ es) b g = go (own x (step b).wire) refl (before_all es (step b))
    where
      go : (t : Bool) → own x (step b).wire ≡ t → (goes x (step b) es ≡ false → before x (step b) es ≡ frames (step b) es)
          → before x b (stepped ∷ es) ≡ rows_on (step b).wire ++ frames (step b) es
      go true e rest = absurd (false≢true (sym g ∙ goes_own x b es e))
      go false e rest =
          before_another x b es e ∙ ap (λ (rows : List Row). rows_on (step b).wire ++ rows) (rest (sym (goes_another x b es e) ∙ g))
  before_all (queued from q ∷ es) b g = before_all es (after_event b (queued from q)) g

  -- where it goes
  pub goes_at : (es : List Event) (b : Bench) → goes x b es ≡ true → GoesAt x b es
  unfolding before goes frames composed after_event final
  goes_at [] b g = absurd (false≢true g)
  goes_at (stepped ∷ es) b g = go (own x (step b).wire) refl (goes_at es (step b))
    where
      go : (t : Bool) → own x (step b).wire ≡ t → (goes x (step b) es ≡ true → GoesAt x (step b) es) → GoesAt x b (stepped ∷ es)
      go true e next = record { first = []; rest = es; splits = refl; not_earlier = refl; its_own = e; counted = before_own x b es e }
      go false e next =
          let w = next (sym (goes_another x b es e) ∙ g) in
          record {
            first = stepped ∷ w.first;
            rest = w.rest;
            splits = ap (λ (l : List Event). stepped ∷ l) w.splits;
            not_earlier = goes_another x b w.first e ∙ w.not_earlier;
            its_own = w.its_own;
            counted = before_another x b es e ∙ ap (λ (rows : List Row). rows_on (step b).wire ++ rows) w.counted;
          }
  goes_at (queued from q ∷ es) b g =
      let w = goes_at es (after_event b (queued from q)) g in
      record {
        first = queued from q ∷ w.first;
        rest = w.rest;
        splits = ap (λ (l : List Event). queued from q ∷ l) w.splits;
        not_earlier = w.not_earlier;
        its_own = w.its_own;
        counted = w.counted;
      }
