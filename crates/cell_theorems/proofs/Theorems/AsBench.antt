-- Whatever run of steps and queue calls a started cell comes to: each record's station is the bench's at that position, and the packet on
-- the wire is the octets of the bench's frame, with the addresses of its ends. Of every good ring file. Assumes nothing.
use mathlib.Core.List.{List}
use Prim.Native.Nat.{ℕ}
use Rattle.cell_theorems.specs.Cell.{Cell, Started, Act, Run}
use Rattle.cell_theorems.specs.AsBench.{bench_after, AsBench}
use Rattle.cell_theorems.proofs.Laws.Matching.{as_bench}
use Rattle.cell_theorems.proofs.Laws.Runs.{reached_matches}

pub reached_as_bench : {file : List ℕ} {c₀ : Cell} → Started file c₀ → {acts : List Act} {c : Cell} → Run file c₀ acts c → AsBench file c (bench_after file acts)
reached_as_bench s r = as_bench (reached_matches s r)
