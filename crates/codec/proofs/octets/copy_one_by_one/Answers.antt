use mathlib.Core.Path.{◌≡◌, refl, sym, ◌∙◌}
use native.Mathlib.Omega.{arith}
use lib.ListN.{length, length-set}
use lib.Seq.{take-length}
use Rattle.codec.proofs.Laws.Octets.{laid_none, laid_more}
use Rattle.codec.proofs.octets.copy_one_by_one.Goals as goal

pub loop-i-init : goal.loop-i-init
loop-i-init c = (omega arith, refl, sym (laid_none c.args.out.now c.args.at))

pub bounds-src-i : goal.bounds-src-i
bounds-src-i c = omega arith

pub overflow_add-out : goal.overflow_add-out
overflow_add-out c = omega arith

pub bounds-out-at : goal.bounds-out-at
bounds-out-at c = omega arith

pub overflow_add-i : goal.overflow_add-i
overflow_add-i c = omega arith

pub loop-i-smaller : goal.loop-i-smaller
loop-i-smaller c = omega arith

pub loop-i-preserved : goal.loop-i-preserved
loop-i-preserved c =
    let l = c.loop-i in
    let a = c.args in (
      omega arith,
      simp length-set l.invariant.1,
      laid_more a.out.now l.out a.src.now a.at l.i c.loop-i-test.true (omega arith) l.invariant.2,
    )

pub returns : goal.returns
returns c =
    let l = c.loop-i in
    let a = c.args in
    let e : l.i ≡ length a.src.now = omega arith in
    l.invariant.2 ∙ rw (e, take-length a.src.now)
