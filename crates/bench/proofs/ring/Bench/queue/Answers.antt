-- `Bench::queue` meets its contract: FROM first, then the call at its record.
use native.Mathlib.Omega.{arith}
use Rattle.parts.proofs.Laws.Live.{seats_most}
use Rattle.bench.proofs.Laws.Calls.{queue_outside, queue_at_record}
use Rattle.bench.proofs.ring.Bench.queue.Goals as goal

pub returns-then-m-from : goal.returns-then-m-from
returns-then-m-from c =
    let a = c.args in
    queue_outside a.self c.seats-m.result a.from a.q c.seats-m.ensures c.if-m-from.true

pub queue_in-r-requires : goal.queue_in-r-requires
queue_in-r-requires c =
    omega (arith, seats_most c.args.self.n, c.seats-m.ensures, c.if-m-from.false)

pub returns : goal.returns
returns c =
    let a = c.args in
    queue_at_record a.self c.seats-m.result a.from a.q c.seats-m.ensures
    c.queue_in-r.result c.if-m-from.false c.queue_in-r.ensures
