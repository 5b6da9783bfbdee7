-- `going::print` meets its contract: an event, a refused record, or the end.
use mathlib.Core.Path.{ap}
use native.Mathlib.Omega.{arith}
use Rattle.bench.specs.declared.table.Handing.{Handing}
use Rattle.replay.specs.Table.{way_of}
use Rattle.day.specs.Strikes.{taken_of}
use Rattle.replay.proofs.Laws.Turns.{read_event, read_refused, read_end, event_place, plan_most, same_done}
use Rattle.replay.proofs.going.print.Goals as goal

pub on_event-requires : goal.on_event-requires
on_event-requires c =
    let p = c.requires in let a = c.args in (p.0, (p.1.0, (p.1.1.0, (omega (arith, ap (λ (h : Handing). h.m) c.handing_in-h.ensures, plan_most (way_of a.g) a.g.read), event_place (way_of a.g) a.g.read _ _ c.in-Good.is p.1.1.1))))

pub returns-in-Good : goal.returns-in-Good
returns-in-Good c =
    let a = c.args in let k = c.handing_in-h in same_done (way_of a.g) _ a.g.read _ _ (taken_of a.strikers a.reply) a.a a.out.now _ k.ensures (read_event (way_of a.g) a.g.read k.result (taken_of a.strikers a.reply) a.a a.out.now _ _ _ _ c.on_event.ensures c.in-Good.is)

pub returns-in-Refused : goal.returns-in-Refused
returns-in-Refused c =
    let a = c.args in let k = c.handing_in-h in same_done (way_of a.g) _ a.g.read _ _ (taken_of a.strikers a.reply) a.a a.out.now _ k.ensures (read_refused (way_of a.g) a.g.read k.result (taken_of a.strikers a.reply) a.a a.out.now _ _ _ c.stop.ensures c.in-Refused.is)

pub returns-in-End : goal.returns-in-End
returns-in-End c =
    let a = c.args in let k = c.handing_in-h in same_done (way_of a.g) _ a.g.read _ _ (taken_of a.strikers a.reply) a.a a.out.now _ k.ensures (read_end (way_of a.g) a.g.read k.result (taken_of a.strikers a.reply) a.a a.out.now _ c.halt.ensures c.in-End.is)
