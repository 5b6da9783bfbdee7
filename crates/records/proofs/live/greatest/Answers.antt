use mathlib.Core.Path.{◌≡◌, sym, ap, ◌∙◌}
use Prim.Native.Nat.{ℕ, suc, ◌+◌, ◌-◌, max}
use native.Mathlib.Omega.{arith}
use Rattle.records.specs.Layout.{live_at}
use Rattle.records.specs.Fields.{greatest}
use Rattle.records.proofs.Laws.Flags.{greatest_none, greatest_turn, max_none}
use Rattle.records.proofs.live.greatest.Goals as goal

pub loop-p-init : goal.loop-p-init
loop-p-init c = (omega arith, max_none _)

pub overflow_add-p : goal.overflow_add-p
overflow_add-p c = omega arith

pub bounds-s-p : goal.bounds-s-p
bounds-s-p c = omega arith

pub overflow_add-p-in-loop-p : goal.overflow_add-p-in-loop-p
overflow_add-p-in-loop-p c = omega arith

pub loop-p-smaller : goal.loop-p-smaller
loop-p-smaller c = omega arith

pub loop-p-preserved : goal.loop-p-preserved
loop-p-preserved c =
    let l = c.loop-p in
    let a = c.args in
    let e : 64 - l.p ≡ suc (64 - (l.p + 1)) = omega arith in
    let n : suc (live_at + l.p) ≡ live_at + (l.p + 1) = omega arith in
    (omega arith, ap (λ (k : ℕ). max c.greater-most.result (greatest a.s.now k (64 - (l.p + 1)))) (sym n) ∙ greatest_turn a.s.now (live_at + l.p) (64 - l.p) (64 - (l.p + 1)) l.most c.greater-most.result _ e (omega arith) c.greater-most.ensures l.invariant.1)

pub returns : goal.returns
returns c =
    let l = c.loop-p in
    let a = c.args in
    let none : greatest a.s.now (live_at + l.p) (64 - l.p) ≡ 0 = greatest_none a.s.now (live_at + l.p) (64 - l.p) (omega arith) in
    omega (arith, none, l.invariant.1)
