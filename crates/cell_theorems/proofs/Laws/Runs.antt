-- A run of a cell is the run of the bench over its events. Assumes nothing.
use mathlib.Core.Path.{◌≡◌, refl, ap, ◌∙◌}
use mathlib.Core.List.{List, ◌++◌}
use Prim.Native.Nat.{ℕ}
use Rattle.bench.specs.Delivery.{step}
use Rattle.bench.specs.Rows.{rows_on}
use Rattle.bench.specs.Runs.{final, frames, after_event, composed as composed_by}
use Rattle.bench.specs.declared.ring.Bench.{Bench}
use Rattle.bench.specs.declared.rows.Row.{Row}
use Rattle.cell_theorems.specs.Cell.{Cell, Started, Act, Run, done, hand_on, ask, composed}
use Rattle.cell_theorems.specs.AsBench.{events, bench_after, rows}
use Rattle.cell_theorems.proofs.Laws.Matching.{Matches}
use Rattle.cell_theorems.proofs.Laws.Starts.{started_matches}
use Rattle.cell_theorems.proofs.Laws.Steps.{step_matches}
use Rattle.cell_theorems.proofs.Laws.Queues.{queue_matches}
use Rattle.cell_theorems.proofs.Laws.Rows.{row_same}

module _ {file : List ℕ} where
  pub run_matches : {c : Cell} {b : Bench} {acts : List Act} {c' : Cell} → Matches file c b → Run file c acts c' → Matches file c' (final b (events file acts))
  unfolding final events after_event
  run_matches m (done c) = m
  run_matches {b = b} m (hand_on c c₁ c' acts h r) = run_matches (step_matches file c c₁ b m h) r
  run_matches {b = b} m (ask c c₁ c' a acts q r) = run_matches (queue_matches file c c₁ b m a q) r

  pub run_rows : {c : Cell} {b : Bench} {acts : List Act} {c' : Cell} → Matches file c b → (r : Run file c acts c')
      → rows file (composed r) ≡ frames b (events file acts)
  unfolding frames events after_event composed_by composed rows
  run_rows m (done c) = refl
  run_rows {b = b} m (hand_on c c₁ c' acts h r) =
      let k = step_matches file c c₁ b m h in
      ap (λ (l : List Row). l ++ rows file (composed r)) (row_same k) ∙ ap (λ (l : List Row). rows_on (step b).wire ++ l) (run_rows k r)
  run_rows {b = b} m (ask c c₁ c' a acts q r) = run_rows (queue_matches file c c₁ b m a q) r

-- so is every run of a started cell
pub reached_matches : {file : List ℕ} {c₀ : Cell} → Started file c₀ → {acts : List Act} {c : Cell} → Run file c₀ acts c → Matches file c (bench_after file acts)
reached_matches {file} {c₀} s r = run_matches (started_matches file c₀ s) r
