-- Laws of what comes before a call acts: the table of moves, then a refusal. Assumes nothing.
use mathlib.Core.Path.{◌≡◌, sym, ◌∙◌}
use Prim.Native.Nat.{ℕ}
use borrow.Author.Tests.{eq-eqb, ne_eqb}
use Rattle.parts.specs.Moves.{move_of, runs}
use Rattle.station.specs.Stations.{state_of, answered, moved, unless}
use Rattle.parts.specs.declared.moves.Event.{Event}
use Rattle.station.specs.declared.station.Station.{Station}
use Rattle.station.specs.declared.station.Answer.{Answer}
use Rattle.parts.proofs.Laws.Choose.{pick_true, pick_false}

module _ (s : Station) (e : Event) (a : Answer) {m : ℕ} (looked : m ≡ move_of (state_of s) e) where
  -- a call that runs does what it does
  pub moved_runs : m ≡ runs → moved s e a ≡ a
  unfolding moved
  moved_runs r = pick_true _ _ (eq-eqb _ _ (sym looked ∙ r))

  -- any other gives its entry as its number, and nothing else
  pub moved_stops : (m ≡ runs → ⊥) → moved s e a ≡ answered s m
  unfolding moved
  moved_stops n = pick_false _ _ (ne_eqb _ _ (λ r. n (looked ∙ r))) ∙ rw (sym looked)

module _ (s : Station) (number : ℕ) (a : Answer) {k : ℕ} (found : k ≡ number) where
  -- a call that is not refused does what it does
  pub unless_passes : k ≡ 0 → unless s number a ≡ a
  unfolding unless
  unless_passes z = pick_true _ _ (eq-eqb _ _ (sym found ∙ z))

  -- a refused one gives its number, and nothing else
  pub unless_refuses : (k ≡ 0 → ⊥) → unless s number a ≡ answered s k
  unfolding unless
  unless_refuses n = pick_false _ _ (ne_eqb _ _ (λ z. n (found ∙ z))) ∙ rw (sym found)
