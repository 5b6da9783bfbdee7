-- `Bench::new` meets its contract. The loop's invariant: what is left to start from here gives the ring.
use mathlib.Core.Path.{◌≡◌}
use Prim.Native.Nat.{◌≤◌}
use lib.ListN.{length}
use Rattle.bench.specs.Ring.{start_down, ring_with}
use Rattle.bench.proofs.Laws.Starting.{bench_of}
use Rattle.bench.proofs.ring.Bench.new.Given as goal

abbrev pub invariant-loop-p : goal.invariant-loop-p
invariant-loop-p l = (l.p ≤ 64) × (length l.stations ≡ 64) × (start_down l.limit l.p (bench_of l.n l.stations l.wire) ≡ ring_with l.n l.limit)

abbrev pub decreases-loop-p : goal.decreases-loop-p
decreases-loop-p l = l.p
