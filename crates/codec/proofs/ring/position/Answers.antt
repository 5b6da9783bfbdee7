use mathlib.Core.Path.{sym, ◌∙◌}
use native.Mathlib.Nat.{zero-add}
use native.Mathlib.Omega.{arith}
use Rattle.codec.specs.Ring.{position}
use Rattle.codec.proofs.Laws.Position.{position_here, position_further, position_none}
use Rattle.codec.proofs.ring.position.Goals as goal

pub loop-i-init : goal.loop-i-init
loop-i-init c = (omega arith, sym (zero-add (position c.args.members.now c.args.address)))

pub offset_bounds-members-i : goal.offset_bounds-members-i
offset_bounds-members-i c = omega arith

pub bounds-members-i : goal.bounds-members-i
bounds-members-i c = omega arith

pub overflow_add-i : goal.overflow_add-i
overflow_add-i c = omega arith

pub loop-i-smaller : goal.loop-i-smaller
loop-i-smaller c = omega arith

pub loop-i-preserved : goal.loop-i-preserved
loop-i-preserved c =
    let a = c.args in
    (omega arith, c.loop-i.invariant.1 ∙ position_further a.members.now a.address c.loop-i.i c.loop-i-test.true c.if-members-i.false)

pub returns-after-loop-i : goal.returns-after-loop-i
returns-after-loop-i c =
    let l = c.loop-i in
    let a = c.args in
    sym (l.invariant.1 ∙ position_none a.members.now a.address l.i c.loop-i-test.false)

pub returns-then-members-i : goal.returns-then-members-i
returns-then-members-i c =
    let a = c.args in
    sym (c.loop-i.invariant.1 ∙ position_here a.members.now a.address c.loop-i.i c.loop-i-test.true c.if-members-i.true)
