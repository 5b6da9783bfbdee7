-- Laws of a run in progress: k of its steps are done and printed. Assumes nothing.
use mathlib.Core.Path.{◌≡◌, refl, sym, ap, ◌∙◌}
use mathlib.Core.List.{List}
use Prim.Native.Nat.{ℕ, ◌+◌, ◌*◌, ◌-◌, ◌<◌, ◌≤◌}
use native.Mathlib.Omega.{arith}
use lib.ListN.{length}
use Rattle.codec.specs.Octets.{laid}
use Rattle.codec.proofs.Laws.Octets.{laid_none, length_laid}
use Rattle.std.specs.Prelude.{None}
use Rattle.bench.specs.Delivery.{step, steps}
use Rattle.bench.specs.Rows.{rows_on}
use Rattle.bench.specs.Text.{rows_text}
use Rattle.bench.specs.Running.{steps_text, ran}
use Rattle.bench.specs.declared.ring.Bench.{Bench}
use Rattle.bench.specs.declared.running.Ran.{Ran}
use Rattle.bench.proofs.Laws.Steps.{steps_none, steps_one, text_one, steps_rest, text_rest}
use Rattle.bench.proofs.Laws.Running.{text_none, steps_short, turn_bench, turn_text}

abbrev pub ran_of : Bench → ℕ → ℕ → Ran
ran_of b used done = record { bench = b; used = used; done = done }

-- the bench b has done k of `most` steps from `self` on, and their lines stand in `out`
pub record UnderWay (self : Bench) (l : List ℕ) (at most : ℕ) (b : Bench) (out : List ℕ) (used k : ℕ) : Type 0 where
  pub within : k ≤ most
  pub room : 32 * most ≤ length l - at
  pub table : length b.stations ≡ 64
  pub long : length out ≡ length l
  pub stepped : b ≡ steps k self
  pub text : out ≡ laid l at (steps_text k self)
  pub end : used ≡ at + length (steps_text k self)

pub going_none : (self : Bench) (l : List ℕ) (at most : ℕ) → 32 * most ≤ length l - at → length self.stations ≡ 64
    → UnderWay self l at most self l at 0
going_none self l at most room table =
    record {
      within = omega arith;
      room = room;
      table = table;
      long = refl;
      stepped = sym (steps_none self);
      text = rw (text_none self) (sym (laid_none l at));
      end = rw (text_none self) (omega arith);
    }

module _ (self : Bench) (l : List ℕ) (at most : ℕ) (b : Bench) (out : List ℕ) (used k : ℕ) (w : UnderWay self l at most b out used k) where
  pub going_room : k < most → used + 32 ≤ length out
  going_room h = omega (arith, w.room, w.long, w.end, steps_short k self)

  -- one step more, with its line
  pub going_on : k < most → (c : Bench) (out₁ : List ℕ) (next : ℕ) → c ≡ steps 1 b → length c.stations ≡ 64
      → out₁ ≡ laid out used (steps_text 1 b) → next ≡ used + length (steps_text 1 b)
      → UnderWay self l at most c out₁ next (k + 1)
  going_on h c out₁ next e size eo en =
      let stepped : c ≡ step b = e ∙ steps_one b in
      let line : steps_text 1 b ≡ rows_text (rows_on c.wire) = text_one b ∙ ap (λ (x : Bench). rows_text (rows_on x.wire)) (sym stepped) in
      let done : c ≡ steps (k + 1) self = turn_bench self k b c w.stepped stepped in
      let both : (out₁ ≡ laid l at (steps_text (k + 1) self)) × (next ≡ at + length (steps_text (k + 1) self)) =
      turn_text self k l out out₁ at used next c done (omega (arith, w.room)) w.text w.end
      (eo ∙ ap (laid out used) line) (en ∙ ap (λ (x : List ℕ). used + length x) line) in
      record {
        within = omega arith;
        room = w.room;
        table = size;
        long = ap length both.0 ∙ length_laid l (steps_text (k + 1) self) at (omega (arith, w.room, steps_short (k + 1) self));
        stepped = done;
        text = both.0;
        end = both.1;
      }

  -- at the end: all steps are done, or the wire is empty and no step does anything more
  going_whole : (full : ℕ) → most ≡ full → steps full self ≡ steps k self → steps_text full self ≡ steps_text k self
      → (ran_of b used most ≡ ran self full at) × (out ≡ laid l at (steps_text full self))
  going_whole full e s t = (rw (w.stepped, w.end, e, s, t), w.text ∙ ap (laid l at) (sym t))

  pub going_all : (full : ℕ) → most ≡ full → most ≤ k → (ran_of b used most ≡ ran self full at) × (out ≡ laid l at (steps_text full self))
  going_all full e h =
      let j : full ≡ k = omega (arith, w.within) in
      going_whole full e (ap (λ (i : ℕ). steps i self) j) (ap (λ (i : ℕ). steps_text i self) j)

  pub going_silent : (full : ℕ) → most ≡ full → b.wire.sent ≡ None → (ran_of b used most ≡ ran self full at) × (out ≡ laid l at (steps_text full self))
  going_silent full e z =
      let j : full ≡ k + (full - k) = omega (arith, w.within) in
      let q : (steps k self).wire.sent ≡ None = ap (λ (x : Bench). x.wire.sent) (sym w.stepped) ∙ z in
      going_whole full e
      (ap (λ (i : ℕ). steps i self) j ∙ steps_rest k (full - k) self q)
      (ap (λ (i : ℕ). steps_text i self) j ∙ text_rest k (full - k) self q)
