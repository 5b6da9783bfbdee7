use Rattle.std.proofs.Common.{◌≡◌, ◌<◌, ◌≤◌, true, length, refl, ◌∙◌, arith, length-set, rules}
use Rattle.parts.specs.Messages.{used}
use Rattle.parts.proofs.Laws.Messages.{length_mapped, used_most, all_to, whole_to}
use Rattle.parts.proofs.Laws.Places.{marked_none, marked_more, marked_same}
use Rattle.parts.proofs.list.taken_places.Goals as goal

pub loop-i-init : goal.loop-i-init
loop-i-init c = (omega arith, c.count-n.ensures, refl, marked_none 256)

pub offset_bounds-l-i : goal.offset_bounds-l-i
offset_bounds-l-i c = omega (arith, used_most c.args.l)

pub bounds-l-i : goal.bounds-l-i
bounds-l-i c = omega (arith, used_most c.args.l)

pub loop-i-preserved : goal.loop-i-preserved
loop-i-preserved c =
    let a = c.args in
    let l = c.loop-i in
    let h : length a.l.items ≡ 16 = search length_mapped in
    let in_list : l.i < used a.l = omega arith in (
      omega arith,
      l.invariant.1,
      length-set l.taken _ true ∙ l.invariant.2,
      marked_more l.taken _ _ _ (all_to a.l h l.i in_list) (search rules) l.invariant.3,
    )

pub returns : goal.returns
returns c =
    let a = c.args in
    let l = c.loop-i in
    let h : length a.l.items ≡ 16 = search length_mapped in
    let past : used a.l ≤ l.i = omega arith in
    (l.invariant.2, marked_same l.taken _ _ (whole_to a.l h l.i past) l.invariant.3)
