use mathlib.Core.Path.{◌≡◌, refl, sym, ◌∙◌}
use native.Mathlib.Omega.{arith}
use lib.ListN.{length}
use borrow.Author.Rules.{rules}
use Rattle.wholeness.proofs.Laws.Whole.{seats_none, seats_here, seats_more}
use Rattle.wholeness.proofs.whole.seats_good.Goals as goal

pub loop-p-init : goal.loop-p-init
loop-p-init c = (omega arith, refl)

pub returns-then-not-seat_good : goal.returns-then-not-seat_good
returns-then-not-seat_good c =
    let a = c.args in
    let l = c.loop-p in
    let h : length a.live.on ≡ 64 = search rules in
    sym (sym l.invariant.1 ∙ seats_here a.state a.n a.own a.live.on l.p (omega arith) (sym c.seat_good.ensures ∙ c.if-not-seat_good.true))

pub overflow_add-p : goal.overflow_add-p
overflow_add-p c = omega arith

pub loop-p-smaller : goal.loop-p-smaller
loop-p-smaller c = omega arith

pub loop-p-preserved : goal.loop-p-preserved
loop-p-preserved c =
    let a = c.args in
    let l = c.loop-p in
    let h : length a.live.on ≡ 64 = search rules in
    (omega arith, sym (seats_more a.state a.n a.own a.live.on l.p (omega arith) (sym c.seat_good.ensures ∙ c.if-not-seat_good.false)) ∙ l.invariant.1)

pub returns : goal.returns
returns c =
    let a = c.args in
    let l = c.loop-p in
    let h : length a.live.on ≡ 64 = search rules in
    sym (sym l.invariant.1 ∙ seats_none a.state a.n a.own a.live.on l.p (omega arith))
