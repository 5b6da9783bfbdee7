use Rattle.std.proofs.Common.{sym, ◌∙◌, arith}
use Rattle.bench.proofs.Laws.Touched.{touched_next, touched_found, touched_over}
use Rattle.bench.proofs.table.touched_from.Goals as goal

pub loop-q-preserved : goal.loop-q-preserved
loop-q-preserved c =
    let l = c.loop-q in
    (omega arith, touched_next c.args.table.now c.args.h c.args.h.m l.q c.loop-q-test.true (sym c.stays_at.ensures ∙ c.if-not-stays_at.false) ∙ l.invariant.1)

pub returns-after-loop-q : goal.returns-after-loop-q
returns-after-loop-q c =
    sym (touched_over c.args.table.now c.args.h c.args.h.m c.loop-q.q c.loop-q-test.false) ∙ c.loop-q.invariant.1

pub returns-then-not-stays_at : goal.returns-then-not-stays_at
returns-then-not-stays_at c =
    sym (touched_found c.args.table.now c.args.h c.args.h.m c.loop-q.q c.loop-q-test.true (sym c.stays_at.ensures ∙ c.if-not-stays_at.true))
    ∙ c.loop-q.invariant.1
