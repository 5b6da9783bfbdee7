use Rattle.std.proofs.Common.{◌≡◌, ◌+◌, ◌<◌, ◌≤◌, List, length, get_or, drop, None, sym, ap, ◌∙◌, arith}
use Rattle.parts.specs.declared.list.Message.{Message}
use Rattle.parts.specs.Messages.{all, used, blank, best, best_of, standing}
use Rattle.parts.proofs.Laws.Messages.{length_mapped, used_most, all_from, none_from, best_none, best_more, standing_off, standing_turn, height}
use Rattle.parts.proofs.list.chosen_at.Goals as goal

pub loop-i-init : goal.loop-i-init
unfolding best
loop-i-init c =
    let l = c.args.l in
    let none : standing l 16 ≡ None = standing_off l 16 (omega arith) in
    (omega arith, c.count-n.ensures, ap (best_of c.args.w (all l)) (sym none), ap height (sym none))

pub offset_bounds-l-i : goal.offset_bounds-l-i
offset_bounds-l-i c = omega (arith, used_most c.args.l)

pub bounds-l-i : goal.bounds-l-i
bounds-l-i c = omega (arith, used_most c.args.l)

pub loop-i-preserved : goal.loop-i-preserved
loop-i-preserved c =
    let a = c.args in
    let l = c.loop-i in
    let h : length a.l.items ≡ 16 = search length_mapped in
    let in_list : l.i < used a.l = omega arith in
    let inside : l.i < 16 = omega (arith, used_most a.l) in
    let turned = standing_turn a.w a.l l.t c.higher-t.result l.i inside l.invariant.3 c.higher-t.ensures in (
      omega arith,
      l.invariant.1,
      l.invariant.2
          ∙ ap (λ (ms : List Message). best_of a.w ms (standing a.l l.t.at)) (all_from a.l h l.i in_list)
          ∙ best_more a.w (get_or a.l.items l.i blank) (drop (l.i + 1) (all a.l)) (standing a.l l.t.at)
          ∙ ap (best_of a.w (drop (l.i + 1) (all a.l))) (sym turned.0),
      turned.1,
    )

pub returns : goal.returns
returns c =
    let a = c.args in
    let l = c.loop-i in
    let h : length a.l.items ≡ 16 = search length_mapped in
    let past : used a.l ≤ l.i = omega arith in
    sym
    (l.invariant.2
    ∙ ap (λ (ms : List Message). best_of a.w ms (standing a.l l.t.at)) (none_from a.l h l.i past)
    ∙ best_none a.w (standing a.l l.t.at))
