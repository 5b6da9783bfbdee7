use Rattle.std.proofs.Common.{◌≡◌, ◌∙◌, ◌≤◌, length, arith}
use Rattle.parts.specs.Live.{seats}
use Rattle.parts.proofs.Laws.Live.{seats_most}
use Rattle.bench.proofs.Laws.Passing.{passed_none, passed_table, passed_reply}
use Rattle.bench.proofs.Laws.Touched.{Found, finds, turn_hand}
use Rattle.bench.specs.Table.{hears}
use Rattle.bench.proofs.table.hand.Goals as goal
use Rattle.bench.proofs.table.hand.Goals.{After-touched_from-p}

-- what a turn knows once the next record is found
found : (c : After-touched_from-p)
    → Found c.args.h c.requires.1.1 c.args.table.now c.loop-p.table c.loop-p.reply c.args.h.m c.loop-p.p c.touched_from-p.result
found c =
    finds c.args.h c.requires.1.1 c.args.table.now c.loop-p.table c.loop-p.reply c.args.h.m c.loop-p.p c.touched_from-p.result c.loop-p.invariant.0 c.loop-p.invariant.1
    c.touched_from-p.ensures

at_most : (c : After-touched_from-p) → c.args.h.m ≤ 64
at_most c = let most : seats c.args.h.n ≤ 64 = seats_most c.args.h.n in omega (arith, c.requires.1.0)

full : (c : After-touched_from-p) → length c.loop-p.table ≡ 64
full c = c.loop-p.invariant.1.long ∙ c.requires.0

pub loop-p-init : goal.loop-p-init
loop-p-init c = (omega arith, passed_none c.args.h.n (hears c.args.h) c.args.h.frame c.args.h.from c.args.h.to c.args.table.now)

pub touched_from-p-requires : goal.touched_from-p-requires
touched_from-p-requires c =
    let most : seats c.args.h.n ≤ 64 = seats_most c.args.h.n in
    (c.loop-p.invariant.0, omega (arith, c.requires.1.0, c.loop-p.invariant.1.long ∙ c.requires.0))

pub hear_at-sent-requires : goal.hear_at-sent-requires
hear_at-sent-requires c =
    let w = (goal.at.hear_at-sent-requires c).After-touched_from-p in
    omega (arith, at_most w, full w, c.if-h-p.false)

pub loop-p-smaller : goal.loop-p-smaller
loop-p-smaller c =
    let f = found (goal.at.loop-p-smaller c).After-touched_from-p in
    omega (arith, f.from, c.if-h-p.false)

pub loop-p-preserved : goal.loop-p-preserved
loop-p-preserved c =
    let w = (goal.at.loop-p-preserved c).After-touched_from-p in
    let a = c.args in (
      omega (arith, c.if-h-p.false),
      turn_hand a.h c.requires.1.1 a.table.now c.loop-p.table c.loop-p.reply a.h.m c.loop-p.p c.touched_from-p.result c.requires.1.0 (full w) (at_most w) (found w)
          c.if-h-p.false c.hear_at-sent.result c.reply_at-reply.result c.hear_at-sent.new.table c.hear_at-sent.ensures.0 c.hear_at-sent.ensures.1 c.reply_at-reply.ensures,
    )

pub returns : goal.returns
returns c =
    let a = c.args in
    let f = found (goal.at.returns c).After-touched_from-p in
    let all : seats a.h.n ≤ c.touched_from-p.result = omega (arith, c.requires.1.0, c.if-h-p.true) in (
      passed_reply a.h.n (hears a.h) a.h.frame a.h.from a.h.to a.table.now c.loop-p.table c.loop-p.reply c.touched_from-p.result f.passed all c.requires.0,
      passed_table a.h.n (hears a.h) a.h.frame a.h.from a.h.to a.table.now c.loop-p.table c.loop-p.reply c.touched_from-p.result f.passed all c.requires.0,
    )
