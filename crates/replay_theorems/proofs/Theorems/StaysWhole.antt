-- Every station stays whole, and every frame on the wire is fit and between two members, at most 64 of them: whatever is lost and
-- whenever timers run. Assumes nothing.
use mathlib.Core.List.{List}
use Prim.Native.Nat.{ℕ, ◌≤◌}
use Rattle.day.specs.Day.{start_day}
use Rattle.replay.specs.Runs.{Record, gone, begun}
use Rattle.replay_theorems.specs.WholeDay.{WholeDay}
use Rattle.replay_theorems.proofs.Laws.Turning.{run_keeps}
use Rattle.replay_theorems.proofs.Laws.WholeRecords.{record_whole}
use Rattle.replay_theorems.proofs.Laws.Beginning.{start_whole_day}

pub stays_whole : (n limit : ℕ) → 2 ≤ n → n ≤ 64 → 1 ≤ limit → limit ≤ 15 → (rs : List Record) → WholeDay n limit (gone (begun (start_day n limit)) rs).day
stays_whole n limit two most low high rs =
    run_keeps (WholeDay n limit) (record_whole most) rs (begun (start_day n limit)) (start_whole_day n limit two most low high)
