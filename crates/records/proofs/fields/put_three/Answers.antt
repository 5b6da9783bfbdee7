-- `fields::put_three` meets its contract: its writes, side by side, are one.
use mathlib.Core.Path.{ap}
use Prim.Native.Nat.{ℕ, ◌+◌}
use native.Mathlib.Omega.{arith}
use Rattle.codec.specs.Octets.{octets}
use Rattle.codec.proofs.Laws.Octets.{length_octets, laid_three}
use Rattle.records.proofs.fields.put_three.Goals as goal

pub returns : goal.returns
returns c =
    let a = c.args in
    laid_three a.out.now _ _ _ (octets a.w a.v) (octets a.x a.y) (octets a.z a.u) a.at (a.at + a.w) (a.at + a.w + a.x) (ap (λ (n : ℕ). a.at + n) (length_octets a.w a.v)) (ap (λ (n : ℕ). a.at + a.w + n) (length_octets a.x a.y)) (omega (arith, c.requires)) c.put.ensures c.put-2.ensures c.put-3.ensures
