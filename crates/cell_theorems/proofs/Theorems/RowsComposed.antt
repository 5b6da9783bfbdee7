-- The packets that a cell's run composes, read by the codec, are the bench's rows: number, kind, sender, addressee, priority and octets on
-- the wire of each. So is the packet of the first start. Assumes nothing.
use mathlib.Core.Path.{◌≡◌, refl, ap}
use mathlib.Core.List.{List}
use Prim.Native.Nat.{ℕ, suc}
use lib.ListN.{length}
use Rattle.bench.specs.Ring.{ring_with}
use Rattle.bench.specs.Rows.{rows_on}
use Rattle.bench.specs.Runs.{frames}
use Rattle.cell_theorems.specs.Cell.{Cell, members, retries, Started, Act, Run, done, hand_on, ask, composed}
use Rattle.cell_theorems.specs.AsBench.{events, row_of, rows}
use Rattle.cell_theorems.specs.Waiting.{steps_of}
use Rattle.cell_theorems.proofs.Laws.Starts.{started_matches}
use Rattle.cell_theorems.proofs.Laws.Rows.{row_same}
use Rattle.cell_theorems.proofs.Laws.Runs.{run_rows}

pub first_row : {file : List ℕ} {c : Cell} → Started file c → row_of file c.wire ≡ rows_on (ring_with (members file) (retries file)).wire
first_row {file} {c} s = row_same (started_matches file c s)

pub rows_composed : {file : List ℕ} {c₀ : Cell} → Started file c₀ → {acts : List Act} {c : Cell} (r : Run file c₀ acts c)
    → rows file (composed r) ≡ frames (ring_with (members file) (retries file)) (events file acts)
rows_composed {file} {c₀} s r = run_rows (started_matches file c₀ s) r

-- as many as there are steps
pub packets_composed : {file : List ℕ} {c : Cell} {acts : List Act} {c' : Cell} (r : Run file c acts c') → length (composed r) ≡ steps_of acts
unfolding composed steps_of
packets_composed (done c) = refl
packets_composed (hand_on c c₁ c' acts h r) = ap suc (packets_composed r)
packets_composed (ask c c₁ c' a acts q r) = packets_composed r
