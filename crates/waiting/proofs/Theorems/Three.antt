-- The bound for N = 3, whatever the retry limit: the run that reaches it has 7 short frames and 2,030 octets before the message's own. Assumes nothing.
use mathlib.Core.Path.{◌≡◌}
use Prim.Native.Nat.{ℕ, ◌≤◌}
use native.Mathlib.Omega.{arith}
use Rattle.waiting.specs.Waiting.{shorts, octets_on_wire, rows_of_three}
use Rattle.waiting.proofs.Theorems.Tight.{tight}

pub three : (limit : ℕ) → 1 ≤ limit → limit ≤ 15 → (shorts (rows_of_three limit) ≡ 7) × (octets_on_wire (rows_of_three limit) ≡ 2030)
three limit low high =
    let t = (tight 3 limit (omega arith) (omega arith) low high).reaches in
    (t.short_frames, t.octets)
