-- What is counted of a run, frame by frame: short frames of 72 octets and information frames of 1,526. Assumes nothing.
use mathlib.Core.Path.{◌≡◌, refl, sym, ap, subst, ◌∙◌}
use mathlib.Core.Bool.{Bool, true, false}
use mathlib.Core.List.{List, [], ◌∷◌, ◌++◌}
use Prim.Native.Nat.{ℕ, ◌+◌, ◌*◌}
use native.Mathlib.Omega.{arith}
use lib.ListN.{length}
use Rattle.parts.specs.declared.frame.Frame.{Frame}
use Rattle.std.specs.Prelude.{Some}
use Rattle.parts.proofs.Laws.Choose.{pick_true, pick_false}
use Rattle.bench.specs.Delivery.{step}
use Rattle.bench.specs.Rows.{kind_of, octets_of, row_of, row_on, rows_on}
use Rattle.bench.specs.Runs.{Event, stepped}
use Rattle.bench.specs.declared.ring.Wire.{Wire}
use Rattle.bench.specs.declared.ring.Bench.{Bench}
use Rattle.bench.specs.declared.rows.Row.{Row}
use Rattle.waiting.specs.Waiting.{Spot, own, before, goes, OnTop, Until, StaysOnTop, is_short, is_information, shorts, informations, octets_on_wire}
use Rattle.waiting.proofs.Laws.RunState.{wire_of}

-- ---- the frames

-- s short frames and i information frames, all as long as they can be
pub record Figures (rows : List Row) (s i : ℕ) : Type 0 where
  pub short_frames : shorts rows ≡ s
  pub information_frames : informations rows ≡ i
  pub octets : octets_on_wire rows ≡ s * 72 + i * 1526
  pub frames : length rows ≡ s + i

-- one frame, which counts u as a short one and v as an information frame
pub record Weighs (f : Frame) (u v : ℕ) : Type 0 where
  pub short : is_short (kind_of f) ≡ u
  pub information : is_information (kind_of f) ≡ v
  pub octets : octets_of f ≡ u * 72 + v * 1526
  pub one : u + v ≡ 1

figures_none : Figures [] 0 0
unfolding shorts informations octets_on_wire
figures_none = record { short_frames = refl; information_frames = refl; octets = refl; frames = refl }

figures_more : {rows : List Row} {s i : ℕ} (from : ℕ) (f : Frame) (to u v : ℕ) → Weighs f u v → Figures rows s i → Figures (row_of from f to ∷ rows) (u + s) (v + i)
unfolding shorts informations octets_on_wire row_of
figures_more from f to u v w r =
    record {
      short_frames = omega (arith, w.short, r.short_frames);
      information_frames = omega (arith, w.information, r.information_frames);
      octets = omega (arith, w.octets, r.octets);
      frames = omega (arith, w.one, r.frames);
    }

-- ---- the run

-- the message stays on top, and goes after s short frames and i information frames
pub record Counts (x : Spot) (priority : ℕ) (b : Bench) (after : List Event) (s i : ℕ) : Type 0 where
  pub stays : StaysOnTop x priority b after
  pub goes_in_it : goes x b after ≡ true
  pub figures : Figures (before x b after) s i

module _ (x : Spot) (priority : ℕ) (b : Bench) (on_top : OnTop x priority b) (es : List Event) where
  -- the next frame is its own
  pub counts_own : own x (step b).wire ≡ true → Counts x priority b (stepped ∷ es) 0 0
  unfolding StaysOnTop goes before
  counts_own e =
      record {
        stays = (on_top, subst (λ (t : Bool). Until t (StaysOnTop x priority (step b) es)) (sym e) tt);
        goes_in_it = pick_true _ _ e;
        figures = subst (λ (l : List Row). Figures l 0 0) (sym (pick_true _ _ e)) figures_none;
      }

  -- the next frame is another
  pub counts_more : {s i : ℕ} (from : ℕ) (f : Frame) (to u v : ℕ) → (step b).wire ≡ wire_of from (Some (f, to)) → own x (step b).wire ≡ false → Weighs f u v
      → Counts x priority (step b) es s i → Counts x priority b (stepped ∷ es) (u + s) (v + i)
  unfolding StaysOnTop goes before row_on
  counts_more {s} {i} from f to u v wire e w c =
      let rows : before x b (stepped ∷ es) ≡ row_of from f to ∷ before x (step b) es =
      pick_false _ _ e ∙ ap (λ (y : Wire). rows_on y ++ before x (step b) es) wire in
      record {
        stays = (on_top, subst (λ (t : Bool). Until t (StaysOnTop x priority (step b) es)) (sym e) c.stays);
        goes_in_it = pick_false _ _ e ∙ c.goes_in_it;
        figures = subst (λ (l : List Row). Figures l (u + s) (v + i)) (sym rows) (figures_more from f to u v w c.figures);
      }
