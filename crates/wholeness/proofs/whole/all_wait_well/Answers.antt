use mathlib.Core.Path.{◌≡◌, refl, sym, ◌∙◌}
use native.Mathlib.Omega.{arith}
use lib.ListN.{length}
use borrow.Author.Rules.{rules}
use Rattle.wholeness.specs.Whole.{waits_well}
use Rattle.parts.proofs.Laws.Messages.{length_mapped, used_most, all_from, none_from}
use Rattle.wholeness.proofs.Laws.Whole.{every_none, every_here, every_more}
use Rattle.wholeness.proofs.whole.all_wait_well.Goals as goal

pub loop-i-init : goal.loop-i-init
loop-i-init c = (omega arith, refl)

pub offset_bounds-l-i : goal.offset_bounds-l-i
offset_bounds-l-i c =
    let b = used_most c.args.l in
    search rules

pub bounds-l-i : goal.bounds-l-i
bounds-l-i c =
    let b = used_most c.args.l in
    search rules

pub returns-then-not-waits_well : goal.returns-then-not-waits_well
returns-then-not-waits_well c =
    let a = c.args in
    let l = c.loop-i in
    let h : length a.l.items ≡ 16 = search length_mapped in
    let m = all_from a.l h l.i (omega arith) in
    sym (sym l.invariant.1 ∙ every_here (waits_well a.live a.f) _ _ _ m (sym c.waits_well.ensures ∙ c.if-not-waits_well.true))

pub overflow_add-i : goal.overflow_add-i
overflow_add-i c =
    let b = used_most c.args.l in
    omega arith

pub loop-i-smaller : goal.loop-i-smaller
loop-i-smaller c = omega arith

pub loop-i-preserved : goal.loop-i-preserved
loop-i-preserved c =
    let a = c.args in
    let l = c.loop-i in
    let h : length a.l.items ≡ 16 = search length_mapped in
    let m = all_from a.l h l.i (omega arith) in
    (omega arith, sym (every_more (waits_well a.live a.f) _ _ _ m (sym c.waits_well.ensures ∙ c.if-not-waits_well.false)) ∙ l.invariant.1)

pub returns : goal.returns
returns c =
    let a = c.args in
    let l = c.loop-i in
    let h : length a.l.items ≡ 16 = search length_mapped in
    sym (sym l.invariant.1 ∙ every_none (waits_well a.live a.f) _ (none_from a.l h l.i (omega arith)))
