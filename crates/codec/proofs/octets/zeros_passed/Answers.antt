use mathlib.Core.Path.{refl, sym, ◌∙◌}
use native.Mathlib.Omega.{arith}
use Rattle.codec.proofs.Laws.Zeros.{zeros_more}
use Rattle.codec.proofs.octets.zeros_passed.Goals as goal

pub loop-i-init : goal.loop-i-init
loop-i-init c = (omega (arith, c.requires), refl)

pub overflow_sub-end : goal.overflow_sub-end
overflow_sub-end c = omega arith

pub get-requires : goal.get-requires
get-requires c = omega (arith, c.requires)

pub overflow_add-i : goal.overflow_add-i
overflow_add-i c = omega (arith, c.requires)

pub loop-i-smaller : goal.loop-i-smaller
loop-i-smaller c = omega arith

pub loop-i-preserved : goal.loop-i-preserved
loop-i-preserved c =
    let l = c.loop-i in
    let a = c.args in
    (omega arith, l.invariant.1 ∙ zeros_more a.s.now l.i 8 a.end (omega arith) c.requires.1 (sym c.get.ensures.0 ∙ c.if-get-ne0.false))

pub returns-after-loop-i : goal.returns-after-loop-i
returns-after-loop-i c = c.loop-i.invariant

pub returns-then-get-ne0 : goal.returns-then-get-ne0
returns-then-get-ne0 c = c.loop-i.invariant
