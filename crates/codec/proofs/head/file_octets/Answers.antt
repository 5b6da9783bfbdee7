-- `head::file_octets` meets its contract: at most 64 strides of at most 7 octets.
use Prim.Native.Nat.{◌*◌, ◌≤◌}
use native.Mathlib.Nat.{mul-le-mul}
use native.Mathlib.Omega.{arith}
use Rattle.codec.proofs.Laws.Ring.{stride_most}
use Rattle.codec.proofs.head.file_octets.Goals as goal
use Rattle.codec.proofs.head.file_octets.Goals.{After-stride}

few : (c : After-stride) → c.stride.result * c.args.n ≤ 7 * 64
few c =
    let s : c.stride.result ≤ 7 = rw c.stride.ensures (stride_most c.args.form) in
    mul-le-mul s c.requires

pub overflow_mul-result : goal.overflow_mul-result
overflow_mul-result c = omega (arith, few c)

pub overflow_add-result : goal.overflow_add-result
overflow_add-result c = omega (arith, few c)

pub returns : goal.returns
returns c = rw c.stride.ensures
