-- `going::on_event` meets its contract, event by event.
use Rattle.replay.specs.Table.{way_of}
use Rattle.replay.proofs.Laws.Turns.{event_frame, event_lost, event_gone, event_timer, event_queue, timer_place}
use Rattle.replay.proofs.going.on_event.Goals as goal

pub on_frame-requires : goal.on_frame-requires
on_frame-requires c =
    let p = c.requires in (p.0, (p.1.0, (p.1.1.0, p.1.1.1.0)))

pub on_frame-requires-in-LostForAddressee : goal.on_frame-requires-in-LostForAddressee
on_frame-requires-in-LostForAddressee c =
    let p = c.requires in (p.0, (p.1.0, (p.1.1.0, p.1.1.1.0)))

pub on_frame-requires-in-LostForAll : goal.on_frame-requires-in-LostForAll
on_frame-requires-in-LostForAll c =
    let p = c.requires in (p.0, (p.1.0, (p.1.1.0, p.1.1.1.0)))

pub on_timer-requires : goal.on_timer-requires
on_timer-requires c =
    let p = c.requires in (p.0, (p.1.0, (p.1.1.0, timer_place _ _ c.in-Timer.is p.1.1.1.1)))

pub on_queue-requires : goal.on_queue-requires
on_queue-requires c =
    let p = c.requires in (p.0, (p.1.0, p.1.1.0))

pub returns-in-Delivered : goal.returns-in-Delivered
returns-in-Delivered c =
    let a = c.args in event_frame (way_of a.g) a.e a.next a.h a.t a.a a.out.now _ _ c.on_frame.ensures c.in-Delivered.is

pub returns-in-LostForAddressee : goal.returns-in-LostForAddressee
returns-in-LostForAddressee c =
    let a = c.args in event_lost (way_of a.g) a.e a.next a.h a.t a.a a.out.now _ _ c.on_frame-in-LostForAddressee.ensures c.in-LostForAddressee.is

pub returns-in-LostForAll : goal.returns-in-LostForAll
returns-in-LostForAll c =
    let a = c.args in event_gone (way_of a.g) a.e a.next a.h a.t a.a a.out.now _ _ c.on_frame-in-LostForAll.ensures c.in-LostForAll.is

pub returns-in-Timer : goal.returns-in-Timer
returns-in-Timer c =
    let a = c.args in event_timer (way_of a.g) a.e a.next a.h a.t a.a a.out.now _ _ _ c.on_timer.ensures c.in-Timer.is

pub returns-in-Queue : goal.returns-in-Queue
returns-in-Queue c =
    let a = c.args in event_queue (way_of a.g) a.e a.next a.h a.t a.a a.out.now _ _ _ _ c.on_queue.ensures c.in-Queue.is
