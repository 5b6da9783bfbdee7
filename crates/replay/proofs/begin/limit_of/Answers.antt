-- `begin::limit_of` meets its contract.
use mathlib.Core.Path.{ap}
use Prim.Native.Nat.{◌<◌}
use native.Mathlib.Omega.{arith}
use Rattle.codec.specs.declared.head.HeadBits.{HeadBits}
use Rattle.codec.proofs.Laws.Bits.{bits_below}
use Rattle.replay.proofs.begin.limit_of.Goals as goal
use Rattle.replay.proofs.begin.limit_of.Goals.{After-struct_known-1}

-- the limit is of 4 bits
few : (c : After-struct_known-1) → c.head_of-head.result.limit < 16
few c = rw (ap (λ (r : HeadBits). r.limit) c.head_of-head.ensures) (bits_below c.args.file.now 10 4)

pub overflow_cast-result : goal.overflow_cast-result
overflow_cast-result c = omega (arith, few c)

pub returns : goal.returns
returns c = ap (λ (r : HeadBits). r.limit) c.head_of-head.ensures
