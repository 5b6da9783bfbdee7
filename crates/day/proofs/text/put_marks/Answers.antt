use mathlib.Core.Path.{◌≡◌, refl}
use native.Mathlib.Omega.{arith}
use Rattle.day.proofs.Laws.Lines.{marks_short, marked_none, marked_more}
use borrow.Author.Rules.{rules}
use Rattle.day.proofs.text.put_marks.Goals as goal

pub loop-q-init : goal.loop-q-init
loop-q-init c =
    let a = c.args in (omega arith, refl, marked_none a.l a.w a.out.now a.at)

pub put_mark-end-requires : goal.put_mark-end-requires
put_mark-end-requires c =
    let a = c.args in let l = c.loop-q in omega (arith, c.requires, marks_short a.l a.w l.q 0)

pub overflow_add-q : goal.overflow_add-q
overflow_add-q c = omega arith

pub loop-q-smaller : goal.loop-q-smaller
loop-q-smaller c = omega arith

pub loop-q-preserved : goal.loop-q-preserved
loop-q-preserved c =
    let a = c.args in let l = c.loop-q in (omega arith, search rules, marked_more a.l a.w a.out.now _ _ a.at _ _ l.q a.m c.requires (omega arith) l.invariant.2 c.put_mark-end.ensures)

pub returns : goal.returns
returns c =
    let a = c.args in let l = c.loop-q in let e : l.q ≡ a.m = omega arith in rw (← e) l.invariant.2
