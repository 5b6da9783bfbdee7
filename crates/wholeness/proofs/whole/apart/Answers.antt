use mathlib.Core.Path.{◌≡◌, refl, sym, ◌∙◌}
use mathlib.Core.Bool.{true}
use native.Mathlib.Omega.{arith}
use lib.ListN.{length, length-set}
use borrow.Author.Rules.{rules}
use Rattle.parts.proofs.Laws.Messages.{length_mapped, used_most, all_from, all_to, none_from}
use Rattle.parts.proofs.Laws.Places.{marked_at, marked_none, marked_more}
use Rattle.wholeness.proofs.Laws.Whole.{apart_none, apart_here, apart_more, place_below, rest_placed}
use Rattle.wholeness.proofs.whole.apart.Goals as goal

pub loop-i-init : goal.loop-i-init
loop-i-init c = (omega arith, refl, refl, marked_none 16, c.requires)

pub offset_bounds-l-i : goal.offset_bounds-l-i
offset_bounds-l-i c =
    let b = used_most c.args.l in
    search rules

pub bounds-l-i : goal.bounds-l-i
bounds-l-i c =
    let b = used_most c.args.l in
    search rules

pub bounds-used-p : goal.bounds-used-p
bounds-used-p c =
    let a = c.args in
    let l = c.loop-i in
    let h : length a.l.items ≡ 16 = search length_mapped in
    let p = place_below _ _ _ (all_from a.l h l.i (omega arith)) l.invariant.4 in
    search rules

pub returns-then-used-p : goal.returns-then-used-p
returns-then-used-p c =
    let a = c.args in
    let l = c.loop-i in
    let h : length a.l.items ≡ 16 = search length_mapped in
    let m = all_from a.l h l.i (omega arith) in
    sym (sym l.invariant.1 ∙ apart_here _ _ _ _ m (sym (marked_at _ _ l.invariant.3 _) ∙ c.if-used-p.true))

pub bounds-used-p-in-loop-i : goal.bounds-used-p-in-loop-i
bounds-used-p-in-loop-i c =
    let a = c.args in
    let l = c.loop-i in
    let h : length a.l.items ≡ 16 = search length_mapped in
    let p = place_below _ _ _ (all_from a.l h l.i (omega arith)) l.invariant.4 in
    search rules

pub overflow_add-i : goal.overflow_add-i
overflow_add-i c =
    let b = used_most c.args.l in
    omega arith

pub loop-i-smaller : goal.loop-i-smaller
loop-i-smaller c = omega arith

pub loop-i-preserved : goal.loop-i-preserved
loop-i-preserved c =
    let a = c.args in
    let l = c.loop-i in
    let h : length a.l.items ≡ 16 = search length_mapped in
    let m = all_from a.l h l.i (omega arith) in
    let t = all_to a.l h l.i (omega arith) in
    let p = place_below _ _ _ m l.invariant.4 in (
      omega arith,
      sym (apart_more _ _ _ _ _ m t (sym (marked_at _ _ l.invariant.3 _) ∙ c.if-used-p.false)) ∙ l.invariant.1,
      length-set l.used _ true ∙ l.invariant.2,
      marked_more l.used _ _ _ t (omega (arith, p, l.invariant.2)) l.invariant.3,
      rest_placed _ _ _ m l.invariant.4,
    )

pub returns : goal.returns
returns c =
    let a = c.args in
    let l = c.loop-i in
    let h : length a.l.items ≡ 16 = search length_mapped in
    sym (sym l.invariant.1 ∙ apart_none _ _ (none_from a.l h l.i (omega arith)))
