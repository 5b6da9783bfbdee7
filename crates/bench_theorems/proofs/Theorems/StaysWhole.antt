-- Every station stays whole, on the ring and at the place that it was made for, with every member live. Assumes nothing.
use mathlib.Core.Path.{◌≡◌, subst}
use mathlib.Core.Bool.{true}
use mathlib.Core.List.{List}
use Prim.Native.Nat.{ℕ, ◌<◌, ◌≤◌}
use native.Mathlib.Omega.{arith}
use Rattle.wholeness.specs.Whole.{whole}
use Rattle.bench.specs.Ring.{station_at, ring_with}
use Rattle.bench.specs.Runs.{Event, final}
use Rattle.bench_theorems.specs.Quiet.{Member}
use Rattle.bench_theorems.proofs.Theorems.ReachedQuiet.{reached_quiet, reached_n}

pub stays_member : (n limit : ℕ) → 2 ≤ n → n ≤ 64 → 1 ≤ limit → limit ≤ 15 → (es : List Event) (p : ℕ) → p < n → Member n limit p (station_at (final (ring_with n limit) es) p)
stays_member n limit two most low high es p h =
    let e = reached_n n limit two most low high es in
    subst (λ (k : ℕ). Member k limit p (station_at (final (ring_with n limit) es) p)) e ((reached_quiet n limit two most low high es).picture.members p (omega arith))

pub stays_whole : (n limit : ℕ) → 2 ≤ n → n ≤ 64 → 1 ≤ limit → limit ≤ 15 → (es : List Event) (p : ℕ) → p < n → whole (station_at (final (ring_with n limit) es) p) ≡ true
stays_whole n limit two most low high es p h = (stays_member n limit two most low high es p h).whole.is_whole
