use mathlib.Core.Path.{refl, ◌∙◌}
use Prim.Native.Nat.{◌-◌}
use native.Mathlib.Omega.{arith}
use lib.ListN.{length-set}
use Rattle.parts.proofs.Laws.Live.{seats_most}
use Rattle.bench.specs.Ring.{ring_with}
use Rattle.bench.proofs.Laws.Starting.{start_begins, start_turn, start_ends}
use Rattle.bench.proofs.ring.Bench.new.Goals as goal

pub loop-p-init : goal.loop-p-init
loop-p-init c = (omega (arith, seats_most c.args.n, c.seats-p.ensures), refl, start_begins c.args.n c.args.limit c.seats-p.result c.new-nobody.result c.seats-p.ensures c.new-nobody.ensures)

pub overflow_sub-p : goal.overflow_sub-p
overflow_sub-p c = omega arith

pub overflow_cast-own : goal.overflow_cast-own
overflow_cast-own c = omega arith

pub offset_bounds-stations-p : goal.offset_bounds-stations-p
offset_bounds-stations-p c = omega arith

pub bounds-stations-p : goal.bounds-stations-p
bounds-stations-p c = omega arith

pub loop-p-smaller : goal.loop-p-smaller
loop-p-smaller c = omega arith

pub loop-p-preserved : goal.loop-p-preserved
loop-p-preserved c =
    let l = c.loop-p in (
      omega arith,
      length-set l.stations (l.p - 1) c.start-a.result.station ∙ l.invariant.1,
      start_turn c.args.n c.args.limit (l.p - 1) l.p l.stations l.wire c.put_on-wire.result c.new-s.result c.start-a.result (ring_with c.args.n c.args.limit)
          (omega arith) c.new-s.ensures c.start-a.ensures c.put_on-wire.ensures l.invariant.2,
    )

pub returns : goal.returns
returns c =
    start_ends _ c.loop-p.p _ _ (omega arith) c.loop-p.invariant.2
