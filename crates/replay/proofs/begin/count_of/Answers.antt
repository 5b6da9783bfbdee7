-- `begin::count_of` meets its contract.
use mathlib.Core.Path.{ap}
use Prim.Native.Nat.{◌+◌, ◌<◌}
use native.Mathlib.Omega.{arith}
use Rattle.codec.specs.declared.head.HeadBits.{HeadBits}
use Rattle.codec.proofs.Laws.Bits.{bits_below}
use Rattle.replay.proofs.begin.count_of.Goals as goal
use Rattle.replay.proofs.begin.count_of.Goals.{After-struct_known-1}

-- N − 1 is of 6 bits
few : (c : After-struct_known-1) → c.head_of-head.result.others < 64
few c = rw (ap (λ (r : HeadBits). r.others) c.head_of-head.ensures) (bits_below c.args.file.now 4 6)

pub overflow_add-result : goal.overflow_add-result
overflow_add-result c = omega (arith, few c)

pub overflow_cast-result : goal.overflow_cast-result
overflow_cast-result c = omega (arith, few c)

pub returns : goal.returns
returns c = ap (λ (r : HeadBits). r.others + 1) c.head_of-head.ensures
