use Rattle.std.proofs.Common.{Bool, true, List, set, refl, ap, ◌∙◌, arith}
use Rattle.parts.proofs.Laws.Live.{seats_most, filled_more, filled}
use Rattle.parts.proofs.live.full.Goals as goal

pub loop-p-init : goal.loop-p-init
loop-p-init c = (c.seats-m.ensures, omega arith, refl)

pub bounds-o-p : goal.bounds-o-p
bounds-o-p c = omega (arith, seats_most c.args.n)

pub loop-p-preserved : goal.loop-p-preserved
loop-p-preserved c =
    let l = c.loop-p in
    (l.invariant.0, omega arith, ap (λ (xs : List Bool). set xs l.p true) l.invariant.2 ∙ filled_more 64 l.p (omega (arith, seats_most c.args.n)))

pub returns : goal.returns
returns c =
    let l = c.loop-p in
    filled l.o c.args.n c.seats-m.result l.p l.invariant.0 l.invariant.1 c.loop-p-test.false l.invariant.2
