use Rattle.std.proofs.Common.{◌≡◌, ℕ, ◌-◌, sym, refl, ap, ◌∙◌, arith}
use Rattle.parts.specs.Live.{seek, successor}
use Rattle.parts.proofs.Laws.Live.{seek_none, turn_found, turn_further}
use Rattle.parts.proofs.live.successor.Goals as goal

pub loop-k-init : goal.loop-k-init
unfolding successor
loop-k-init c = (omega arith, refl, refl)

pub loop-k-preserved : goal.loop-k-preserved
loop-k-preserved c =
    let a = c.args in
    let l = c.loop-k in
    let s = c.step-at in
    (omega arith, l.invariant.1, l.invariant.2 ∙ turn_further a.live a.n a.from l.k l.at s.result c.loop-k-test.true s.ensures (sym c.live_at.ensures ∙ c.if-live_at.false))

pub returns-after-loop-k : goal.returns-after-loop-k
returns-after-loop-k c =
    let a = c.args in
    let l = c.loop-k in
    let e : a.n - l.k ≡ 0 = omega arith in
    l.invariant.1 ∙ sym (l.invariant.2 ∙ ap (λ (m : ℕ). seek a.live a.n a.from m l.at) e ∙ seek_none a.live a.n a.from l.at)

pub returns-then-live_at : goal.returns-then-live_at
returns-then-live_at c =
    let a = c.args in
    let l = c.loop-k in
    let s = c.step-at in
    sym (l.invariant.2 ∙ turn_found a.live a.n a.from l.k l.at s.result c.loop-k-test.true s.ensures (sym c.live_at.ensures ∙ c.if-live_at.true))
