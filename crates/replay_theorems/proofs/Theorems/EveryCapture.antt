-- Of every ring file and capture that are not refused: N and R are in range, and what is printed is the beginning, the text of the run's lines, and
-- the end. So the theorems of this crate hold of it. Assumes nothing.
use mathlib.Core.Path.{◌≡◌, refl, sym, ap, ◌∙◌}
use mathlib.Core.Bool.{Bool, true, false}
use mathlib.Core.List.{List, ◌++◌}
use Prim.Native.Nat.{ℕ}
use native.Mathlib.Omega.{arith}
use lib.Dec.{eqb}
use borrow.Author.Tests.{eqb-true, eqb-false, eq-eqb}
use Rattle.codec.specs.Ring.{ring_refusal}
use Rattle.codec.proofs.Laws.Bits.{bits_below}
use Rattle.codec.proofs.Laws.Ring.{head_good, head_passed}
use Rattle.parts.proofs.Laws.Choose.{pick_true, pick_false}
use Rattle.capture.specs.Record.{capture_number}
use Rattle.day.specs.Day.{Day}
use Rattle.day.specs.Printed.{start_text, end_text}
use Rattle.replay.specs.Runs.{Record, gone, begun, day_text, records_with, refusal, output}
use Rattle.replay_theorems.specs.Lines.{lines_text, run_lines}
use Rattle.replay_theorems.specs.EveryCapture.{day_of, Printed}
use Rattle.replay_theorems.proofs.Theorems.LinesPrinted.{lines_printed}

-- the ring file passes, and the capture
ring_passes : (file s : List ℕ) → refusal file s ≡ 0 → ring_refusal file ≡ 0
unfolding refusal
ring_passes file s z = go (eqb (ring_refusal file) 0) refl
  where
    go : (b : Bool) → eqb (ring_refusal file) 0 ≡ b → ring_refusal file ≡ 0
    go true e = eqb-true _ _ e
    go false e = absurd (eqb-false _ _ e (sym (pick_false (capture_number s) (ring_refusal file) e) ∙ z))

pub capture_passed : (file s : List ℕ) → refusal file s ≡ 0 → capture_number s ≡ 0
unfolding refusal
capture_passed file s z = sym (pick_true (capture_number s) (ring_refusal file) (eq-eqb _ _ (ring_passes file s z))) ∙ z

pub output_is : (file s : List ℕ) → refusal file s ≡ 0 → output file s ≡ day_text (day_of file) (records_with file s)
unfolding output
output_is file s z = pick_true _ _ (eq-eqb _ _ z)

day_lines : (d : Day) (rs : List Record) → day_text d rs ≡ start_text d ++ (lines_text (run_lines (begun d) rs) ++ end_text (gone (begun d) rs).day)
unfolding day_text
day_lines d rs = ap (λ (t : List ℕ). start_text d ++ (t ++ end_text (gone (begun d) rs).day)) (lines_printed (begun d) rs)

pub every_capture : (file s : List ℕ) → refusal file s ≡ 0 → Printed file s
every_capture file s z =
    let h = head_good file (head_passed file (ring_passes file s z)) in
    record {
      some_members = omega (arith, h.another);
      most_members = omega (arith, bits_below file 4 6);
      some_retry = omega (arith, h.some_limit);
      most_retries = omega (arith, bits_below file 10 4);
      prints = output_is file s z ∙ day_lines (day_of file) (records_with file s);
    }
