use Rattle.std.proofs.Common.{◌≡◌, ◌<◌, ◌≤◌, List, length, take, ap, ◌∙◌, arith, length-take}
use Rattle.parts.specs.declared.list.Message.{Message}
use Rattle.parts.specs.Messages.{all, used, pack, only, among, chosen_by}
use Rattle.parts.proofs.Laws.Messages.{length_mapped, used_most, all_to, whole_to, grown_most, chosen_none, chosen_turn}
use Rattle.parts.proofs.list.chosen.Goals as goal

pub loop-i-init : goal.loop-i-init
loop-i-init c = (omega arith, c.count-n.ensures, omega arith, chosen_none _)

pub offset_bounds-l-i : goal.offset_bounds-l-i
offset_bounds-l-i c = omega (arith, used_most c.args.l)

pub bounds-l-i : goal.bounds-l-i
bounds-l-i c = omega (arith, used_most c.args.l)

pub offset_bounds-items-k : goal.offset_bounds-items-k
offset_bounds-items-k c = omega (arith, used_most c.args.l)

pub bounds-items-k : goal.bounds-items-k
bounds-items-k c = omega (arith, used_most c.args.l)

pub grown-k-requires : goal.grown-k-requires
grown-k-requires c = omega (arith, used_most c.args.l)

pub loop-i-preserved : goal.loop-i-preserved
loop-i-preserved c =
    let a = c.args in
    let l = c.loop-i in
    let h : length a.l.items ≡ 16 = search length_mapped in
    let in_list : l.i < used a.l = omega arith in
    let room : length (take l.i (all a.l)) < 16 = omega (arith, length-take l.i (all a.l), used_most a.l) in (
      omega arith,
      l.invariant.1,
      omega (arith, c.grown-k.ensures, grown_most c.among-b.result l.k),
      chosen_turn (among a.w a.fitting) _ _ _ _ _ _ _ _ room (all_to a.l h l.i in_list) l.invariant.3 c.among-b.ensures c.slot-v.ensures c.grown-k.ensures,
    )

pub returns : goal.returns
unfolding chosen_by
returns c =
    let a = c.args in
    let l = c.loop-i in
    let h : length a.l.items ≡ 16 = search length_mapped in
    let past : used a.l ≤ l.i = omega arith in
    l.invariant.3 ∙ ap (λ (ms : List Message). pack (only (among a.w a.fitting) ms)) (whole_to a.l h l.i past)
