-- Laws of many steps in one call: what one turn does, and how much it prints. Assumes nothing.
use mathlib.Core.Path.{◌≡◌, refl, sym, ap, ◌∙◌}
use mathlib.Core.Bool.{Bool, true, false}
use mathlib.Core.List.{List, [], ◌++◌, append-nil}
use Prim.Native.Nat.{ℕ, zero, suc, ◌+◌, ◌*◌, ◌/◌, ◌<◌, ◌≤◌}
use native.Mathlib.Numerals.{add-one}
use native.Mathlib.Omega.{arith}
use lib.Dec.{ltb}
use lib.ListN.{length, length-append}
use borrow.Author.Tests.{lt-ltb, le-ltb, ltb-false}
use Rattle.codec.specs.Octets.{laid}
use Rattle.codec.proofs.Laws.Octets.{laid_none}
use Rattle.parts.specs.declared.frame.Frame.{Frame}
use Rattle.parts.specs.Frames.{Dispatch}
use Rattle.std.specs.Prelude.{None, Some}
use Rattle.station.specs.declared.station.Station.{Station}
use Rattle.parts.proofs.Laws.Choose.{pick_true, pick_false}
use Rattle.bench.specs.Ring.{station_at}
use Rattle.bench.specs.Delivery.{handed, delivered, reply_of, deliver_to, others, step_on, step, steps}
use Rattle.bench.specs.Rows.{row_of, row_on, rows_on}
use Rattle.bench.specs.Runs.{frames, stepping}
use Rattle.bench.specs.Text.{row_text, rows_text}
use Rattle.bench.specs.Running.{fitting, steps_text}
use Rattle.bench.specs.declared.ring.Wire.{Wire}
use Rattle.bench.specs.declared.ring.Bench.{Bench}
use Rattle.bench.specs.declared.rows.Row.{Row}
use Rattle.bench.proofs.Laws.Starting.{bench_of}
use Rattle.bench.proofs.Laws.Laying.{laid_both, row_short}
use Rattle.bench.proofs.Laws.Steps.{steps_more, steps_text_more}

-- a delivered frame is a step
pub step_sent : (b : Bench) (f : Frame) (to : ℕ) (cur : List Station) (reply : Dispatch) → b.wire.sent ≡ Some (f, to)
    → cur ≡ delivered b.n (others b.wire.from) f b.wire.from to 0 b.stations
    → reply ≡ (handed b.n (others b.wire.from) f b.wire.from to to (station_at b to)).sent
    → bench_of b.n cur (record { from = to; sent = reply }) ≡ step b
unfolding step step_on deliver_to reply_of
step_sent b f to cur reply e c r = rw (c, r) (sym (ap (step_on b) e))

-- ---- how much is printed

pub text_none : (b : Bench) → steps_text 0 b ≡ []
unfolding steps_text rows_text frames stepping
text_none b = refl

pub wire_short : (w : Wire) → length (rows_text (rows_on w)) ≤ 32
unfolding rows_text row_on
wire_short w = go w.sent
  where
    go : (d : Dispatch) → length (rows_text (row_on w.from d)) ≤ 32
    go None = omega arith
    go (Some (f, to)) = omega (arith, row_short (row_of w.from f to), length-append (row_text (row_of w.from f to)) [])

pub steps_short : (k : ℕ) (b : Bench) → length (steps_text k b) ≤ 32 * k
steps_short zero b = rw (text_none b) (omega arith)
steps_short (suc k) b =
    rw (steps_text_more k b)
    (omega (arith, length-append (steps_text k b) (rows_text (rows_on (step (steps k b)).wire)), steps_short k b, wire_short (step (steps k b)).wire))

-- ---- as many lines as fit

module _ (count l room : ℕ) (e : l ≡ room) where
  pub fitting_less : l / 32 < count → l / 32 ≡ fitting count room
  unfolding fitting
  fitting_less h = rw (← e) (sym (pick_true _ _ (lt-ltb (l / 32) count h)))

  pub fitting_count : count ≤ l / 32 → count ≡ fitting count room
  unfolding fitting
  fitting_count h = rw (← e) (sym (pick_false _ _ (le-ltb (l / 32) count h)))

pub fitting_room : (count room : ℕ) → 32 * fitting count room ≤ room
unfolding fitting
fitting_room count room = go (ltb (room / 32) count) refl
  where
    go : (b : Bool) → ltb (room / 32) count ≡ b → 32 * fitting count room ≤ room
    go true e = let x : fitting count room ≡ room / 32 = pick_true _ _ e in omega arith
    go false e = let x : fitting count room ≡ count = pick_false _ _ e in let y : count ≤ room / 32 = ltb-false (room / 32) count e in omega arith

pub fitting_some : (count room : ℕ) → 0 < count → 32 ≤ room → 0 < fitting count room
unfolding fitting
fitting_some count room h r = go (ltb (room / 32) count) refl
  where
    go : (b : Bool) → ltb (room / 32) count ≡ b → 0 < fitting count room
    go true e = let x : fitting count room ≡ room / 32 = pick_true _ _ e in omega arith
    go false e = let x : fitting count room ≡ count = pick_false _ _ e in omega arith

-- ---- one turn

module _ (self : Bench) (k : ℕ) where
  pub turn_bench : (b c : Bench) → b ≡ steps k self → c ≡ step b → c ≡ steps (k + 1) self
  turn_bench b c e f = f ∙ ap step e ∙ sym (steps_more k self) ∙ ap (λ (j : ℕ). steps j self) (sym (add-one k))

  pub turn_text : (l l₁ l₂ : List ℕ) (at used next : ℕ) (c : Bench) → c ≡ steps (k + 1) self → at + 32 * (k + 1) ≤ length l
      → l₁ ≡ laid l at (steps_text k self) → used ≡ at + length (steps_text k self)
      → l₂ ≡ laid l₁ used (rows_text (rows_on c.wire)) → next ≡ used + length (rows_text (rows_on c.wire))
      → (l₂ ≡ laid l at (steps_text (k + 1) self)) × (next ≡ at + length (steps_text (k + 1) self))
  turn_text l l₁ l₂ at used next c e room p eu q en =
      let t : steps_text (k + 1) self ≡ steps_text k self ++ rows_text (rows_on c.wire) =
      ap (λ (j : ℕ). steps_text j self) (add-one k) ∙ steps_text_more k self
      ∙ ap (λ (b : Bench). steps_text k self ++ rows_text (rows_on b.wire)) (sym (steps_more k self) ∙ ap (λ (j : ℕ). steps j self) (sym (add-one k)) ∙ sym e) in
      rw t (laid_both l l₁ l₂ (steps_text k self) (rows_text (rows_on c.wire)) at used next (omega (arith, steps_short k self, wire_short c.wire)) eu en p q)

-- ---- the line of the frame on the wire

module _ (w : Wire) (l : List ℕ) (at : ℕ) where
  pub wire_none : w.sent ≡ None → (l ≡ laid l at (rows_text (rows_on w))) × (at ≡ at + length (rows_text (rows_on w)))
  unfolding rows_text row_on
  wire_none e =
      let z : rows_text (rows_on w) ≡ [] = ap (λ (d : Dispatch). rows_text (row_on w.from d)) e in
      rw z (sym (laid_none l at), omega arith)

  pub wire_some : (f : Frame) (to r : ℕ) (row : Row) (l₁ : List ℕ) → w.sent ≡ Some (f, to) → row ≡ row_of w.from f to → l₁ ≡ laid l at (row_text row) → r ≡ at + length (row_text row)
      → (l₁ ≡ laid l at (rows_text (rows_on w))) × (r ≡ at + length (rows_text (rows_on w)))
  unfolding rows_text row_on
  wire_some f to r row l₁ e i p q =
      let z : rows_text (rows_on w) ≡ row_text row =
      ap (λ (d : Dispatch). rows_text (row_on w.from d)) e ∙ append-nil (row_text (row_of w.from f to)) ∙ ap row_text (sym i) in
      rw z (p, q)
