use mathlib.Core.Path.{refl}
use native.Mathlib.Omega.{arith}
use lib.ListN.{length-set}
use Rattle.day.specs.Printed.{live_text}
use Rattle.day.proofs.Laws.Standing.{end_none, end_more, end_all, length_live}
use Rattle.day.proofs.standing.put_live.Goals as goal

pub overflow_add-left : goal.overflow_add-left
overflow_add-left c = omega arith

pub loop-left-init : goal.loop-left-init
loop-left-init c =
    let a = c.args in
    let n = length_live a.live a.n 0 in
    (omega arith, refl, end_none a.out.now a.out.now (live_text a.live a.n 0) a.at _ (omega (arith, n)))

pub overflow_sub-left : goal.overflow_sub-left
overflow_sub-left c = omega arith

pub live_octet-requires : goal.live_octet-requires
live_octet-requires c = omega arith

pub overflow_add-out : goal.overflow_add-out
overflow_add-out c = omega arith

pub bounds-out-at : goal.bounds-out-at
bounds-out-at c = omega arith

pub loop-left-smaller : goal.loop-left-smaller
loop-left-smaller c = omega arith

pub loop-left-preserved : goal.loop-left-preserved
loop-left-preserved c =
    let l = c.loop-left in
    let a = c.args in
    let n = length_live a.live a.n 0 in (
      omega arith,
      simp length-set l.invariant.1,
      end_more a.out.now l.out (live_text a.live a.n 0) a.at l.left _ c.loop-left-test.true (omega (arith, n)) (omega (arith, n)) l.invariant.2 c.live_octet.ensures,
    )

pub overflow_add-result : goal.overflow_add-result
overflow_add-result c = omega arith

pub overflow_add-result-2 : goal.overflow_add-result-2
overflow_add-result-2 c = omega arith

pub returns : goal.returns
returns c =
    let l = c.loop-left in
    let a = c.args in
    (end_all a.out.now l.out (live_text a.live a.n 0) a.at l.left (omega arith) l.invariant.2, omega (arith, length_live a.live a.n 0))
