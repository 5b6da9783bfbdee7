-- No call of a cell's run is refused: each record is made and starts, each that is handed the packet on the wire gives 0, and a queue call
-- gives the bench's number. And each step composes one packet: the addressee's call leaves it, every other call none. Assumes nothing.
use mathlib.Core.List.{List}
use Prim.Native.Nat.{ℕ}
use Rattle.cell_theorems.specs.Cell.{Cell, Started, HandedOn, Asking, QueueCall, Act, Run}
use Rattle.cell_theorems.specs.AsBench.{bench_after, StartsDone, StepDone, QueueNumbered}
use Rattle.cell_theorems.proofs.Laws.Starts.{starts_done}
use Rattle.cell_theorems.proofs.Laws.Steps.{step_done}
use Rattle.cell_theorems.proofs.Laws.Queues.{call_number}
use Rattle.cell_theorems.proofs.Laws.Runs.{reached_matches}

pub no_start_refused : (file : List ℕ) (c : Cell) (s : Started file c) → StartsDone file c s
no_start_refused file c s = starts_done file c s

module _ {file : List ℕ} {c₀ : Cell} (s : Started file c₀) {acts : List Act} {c : Cell} (r : Run file c₀ acts c) where
  pub no_frame_refused : (c' : Cell) (h : HandedOn file c c') → StepDone file c c' h
  no_frame_refused c' h = step_done file c c' (bench_after file acts) (reached_matches s r) h

  pub queue_numbers : (a : Asking) (c' : Cell) (q : QueueCall file a c c') → QueueNumbered file (bench_after file acts) a c c' q
  queue_numbers a c' q = call_number file c c' (bench_after file acts) (reached_matches s r) a q
