use Rattle.std.proofs.Common.{◌≡◌, ℕ, ap, ◌∙◌, arith}
use Rattle.day.specs.Strikes.{strikers_of}
use Rattle.replay.proofs.Laws.Marks.{strikers_none, strikers_more}
use Rattle.replay.proofs.table.strikers.Goals as goal

pub loop-p-init : goal.loop-p-init
loop-p-init c = (omega arith, strikers_none c.args.none c.args.table.now c.args.h)

pub loop-p-preserved : goal.loop-p-preserved
loop-p-preserved c =
    let l = c.loop-p in (
      omega (arith, c.loop-p-test.true),
      strikers_more c.args.none c.args.table.now c.args.h l.l c.mark-l.result l.p c.strikes_at-b.result l.invariant.1 c.strikes_at-b.ensures c.mark-l.ensures,
    )

pub returns : goal.returns
returns c =
    let l = c.loop-p in
    let all : l.p ≡ c.args.m = omega (arith, c.loop-p-test.false, l.invariant.0) in
    l.invariant.1 ∙ ap (λ (k : ℕ). strikers_of c.args.none k c.args.table.now c.args.h) all
