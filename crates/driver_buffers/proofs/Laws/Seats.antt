-- Laws of ring positions. Assumes nothing.
use mathlib.Core.Bool.{Bool, true, false, cond}
use mathlib.Core.List.{List, [], ◌∷◌}
use Prim.Native.Nat.{ℕ, suc, ◌≤◌, zero-le, suc-le-suc}
use lib.Dec.{eqb}
use lib.ListN.{length}
use Rattle.codec.specs.Ring.{position}

-- a position is at most the number of members
pub position_most : (ms : List ℕ) (a : ℕ) → position ms a ≤ length ms
unfolding position
position_most [] a = zero-le
position_most (m ∷ ms) a = go (eqb m a) (position_most ms a)
  where
    go : (b : Bool) → position ms a ≤ length ms → cond b 0 (suc (position ms a)) ≤ suc (length ms)
    go true h = zero-le
    go false h = suc-le-suc h
