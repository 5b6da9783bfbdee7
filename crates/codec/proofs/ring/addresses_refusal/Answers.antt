use mathlib.Core.Path.{refl, sym, ◌∙◌}
use native.Mathlib.Omega.{arith}
use Rattle.codec.specs.Ring.{addresses_refusal}
use Rattle.codec.proofs.Laws.Ring.{addresses_none, addresses_more, addresses_here}
use Rattle.codec.proofs.ring.addresses_refusal.Goals as goal

pub loop-i-init : goal.loop-i-init
unfolding addresses_refusal
loop-i-init c = (omega arith, refl, refl)

pub address_refusal-number-requires : goal.address_refusal-number-requires
address_refusal-number-requires c = omega arith

pub overflow_add-i : goal.overflow_add-i
overflow_add-i c = omega arith

pub loop-i-smaller : goal.loop-i-smaller
loop-i-smaller c = omega arith

pub loop-i-preserved : goal.loop-i-preserved
loop-i-preserved c =
    let l = c.loop-i in
    let ms = c.args.members.now in
    let r = c.address_refusal-number in
    (omega arith, c.if-number-ne0.false, l.invariant.2 ∙ addresses_more ms l.i c.loop-i-test.true (sym r.ensures ∙ c.if-number-ne0.false))

pub returns-after-loop-i : goal.returns-after-loop-i
returns-after-loop-i c =
    let l = c.loop-i in
    let ms = c.args.members.now in
    l.invariant.1 ∙ sym (l.invariant.2 ∙ addresses_none ms l.i c.loop-i-test.false)

pub returns-then-number-ne0 : goal.returns-then-number-ne0
returns-then-number-ne0 c =
    let l = c.loop-i in
    let ms = c.args.members.now in
    let r = c.address_refusal-number in
    r.ensures ∙ sym (l.invariant.2 ∙ addresses_here ms l.i c.loop-i-test.true (λ e. c.if-number-ne0.true (r.ensures ∙ e)))
