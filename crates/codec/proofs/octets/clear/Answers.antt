use mathlib.Core.Path.{◌≡◌, refl, sym, ap, ◌∙◌}
use mathlib.Core.List.{List}
use Prim.Native.Nat.{ℕ, ◌+◌, ◌<◌, ◌≤◌}
use native.Mathlib.Omega.{arith}
use lib.ListN.{length, take, set, length-set, get_or-replicate}
use lib.Seq.{take-length}
use Rattle.codec.specs.Octets.{laid, zeros}
use Rattle.codec.proofs.Laws.Octets.{laid_none, laid_more, length_zeros}
use Rattle.codec.proofs.octets.clear.Goals as goal

-- one zero more: what a copy of zeros does
zero_more : (l out : List ℕ) (at count i : ℕ) → i < count → at + count ≤ length l → out ≡ laid l at (take i (zeros count)) → set out (at + i) 0 ≡ laid l at (take (i + 1) (zeros count))
zero_more l out at count i more room e =
    let long : length (zeros count) ≡ count = length_zeros count in
    ap (set out (at + i)) (sym (get_or-replicate count i 0 0 more)) ∙ laid_more l out (zeros count) at i (rw long more) (omega arith) e

pub loop-i-init : goal.loop-i-init
loop-i-init c = (omega arith, refl, sym (laid_none c.args.out.now c.args.at))

pub overflow_add-out : goal.overflow_add-out
overflow_add-out c = omega arith

pub bounds-out-at : goal.bounds-out-at
bounds-out-at c = omega arith

pub overflow_add-i : goal.overflow_add-i
overflow_add-i c = omega arith

pub loop-i-smaller : goal.loop-i-smaller
loop-i-smaller c = omega arith

pub loop-i-preserved : goal.loop-i-preserved
loop-i-preserved c =
    let l = c.loop-i in
    let a = c.args in (
      omega arith,
      simp length-set l.invariant.1,
      zero_more a.out.now l.out a.at a.count l.i c.loop-i-test.true c.requires l.invariant.2,
    )

pub returns : goal.returns
returns c =
    let l = c.loop-i in
    let a = c.args in
    let e : l.i ≡ length (zeros a.count) = omega (arith, length_zeros a.count) in
    l.invariant.2 ∙ rw (e, take-length (zeros a.count))
