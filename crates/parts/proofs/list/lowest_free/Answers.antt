use Rattle.std.proofs.Common.{sym, refl, ◌∙◌, arith}
use Rattle.parts.specs.Messages.{lowest_free}
use Rattle.parts.proofs.Laws.Messages.{turn_free, turn_taken, turn_all}
use Rattle.parts.proofs.Laws.Places.{marked_at}
use Rattle.parts.proofs.list.lowest_free.Goals as goal

pub loop-p-init : goal.loop-p-init
unfolding lowest_free
loop-p-init c = (omega arith, λ ms k. refl)

pub loop-p-preserved : goal.loop-p-preserved
loop-p-preserved c =
    let l = c.loop-p in (
      omega arith,
      λ ms k.
          l.invariant.1 ms k
          ∙ turn_taken 16 l.p ms c.loop-p-test.true (sym (marked_at _ ms k l.p) ∙ c.if-not-f-k.false),
    )

pub returns-after-loop-p : goal.returns-after-loop-p
returns-after-loop-p c =
    let l = c.loop-p in
    let m = c.taken_places-f.ensures.1 in
    sym (l.invariant.1 _ m ∙ turn_all 16 l.p _ c.loop-p-test.false)

pub returns-then-not-f-k : goal.returns-then-not-f-k
returns-then-not-f-k c =
    let l = c.loop-p in
    let m = c.taken_places-f.ensures.1 in
    sym (l.invariant.1 _ m ∙ turn_free 16 l.p _ c.loop-p-test.true (sym (marked_at _ _ m l.p) ∙ c.if-not-f-k.true))
