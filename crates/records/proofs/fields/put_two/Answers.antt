-- `fields::put_two` meets its contract: its writes, side by side, are one.
use mathlib.Core.Path.{ap}
use Prim.Native.Nat.{ℕ, ◌+◌}
use native.Mathlib.Omega.{arith}
use Rattle.codec.specs.Octets.{octets}
use Rattle.codec.proofs.Laws.Octets.{length_octets, then_laid}
use Rattle.records.proofs.fields.put_two.Goals as goal

pub returns : goal.returns
returns c =
    let a = c.args in
    then_laid a.out.now _ _ (octets a.w a.v) (octets a.x a.y) a.at (a.at + a.w) (ap (λ (n : ℕ). a.at + n) (length_octets a.w a.v)) (omega (arith, c.requires)) c.put.ensures c.put-2.ensures
