-- `station::alone` meets its contract: the successor is compared with the own position.
use mathlib.Core.Path.{ap}
use Prim.Native.Nat.{ℕ}
use lib.Dec.{eqb}
use Rattle.station.proofs.station.alone.Goals as goal

pub returns : goal.returns
returns c = ap (λ (k : ℕ). eqb k c.args.s.own) c.successor.ensures
