use mathlib.Core.Path.{◌≡◌, refl, sym, ◌∙◌}
use native.Mathlib.Omega.{arith}
use lib.ListN.{length, length-set}
use lib.Seq.{take-length}
use Rattle.codec.proofs.Laws.Octets.{laid_none}
use Rattle.records.specs.Layout.{live_at}
use Rattle.records.specs.Fields.{ones}
use Rattle.records.proofs.Laws.Anew.{length_ones, one_more}
use Rattle.records.proofs.live.put_ones.Goals as goal

pub loop-p-init : goal.loop-p-init
loop-p-init c = (omega arith, refl, sym (laid_none c.args.out.now live_at))

pub overflow_add-out : goal.overflow_add-out
overflow_add-out c = omega arith

pub bounds-out-p : goal.bounds-out-p
bounds-out-p c = omega arith

pub overflow_add-p : goal.overflow_add-p
overflow_add-p c = omega arith

pub loop-p-smaller : goal.loop-p-smaller
loop-p-smaller c = omega arith

pub loop-p-preserved : goal.loop-p-preserved
loop-p-preserved c =
    let l = c.loop-p in
    let a = c.args in (
      omega arith,
      simp length-set l.invariant.1,
      one_more a.out.now l.out live_at a.n l.p c.loop-p-test.true (omega arith) l.invariant.2,
    )

pub returns : goal.returns
returns c =
    let l = c.loop-p in
    let a = c.args in
    let e : l.p ≡ length (ones a.n) = omega (arith, length_ones a.n) in
    l.invariant.2 ∙ rw (e, take-length (ones a.n))
