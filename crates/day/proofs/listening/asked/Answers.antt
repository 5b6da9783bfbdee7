-- `listening::asked` meets its contract, event by event.
use mathlib.Core.Path.{sym, ap}
use Rattle.day.specs.Listening.{heard_in, asked}
use Rattle.day.proofs.Laws.Listening.{asked_queue}
use Rattle.day.proofs.listening.asked.Goals as goal

pub returns-in-Timer : goal.returns-in-Timer
returns-in-Timer c =
    let a = c.args in sym (ap (asked (heard_in a.n a.channels)) c.in-Timer.is)

pub returns-in-Queue : goal.returns-in-Queue
returns-in-Queue c =
    asked_queue _ _ _ _ _ _ c.in-Queue.is c.heard_in-listens.ensures c.saying-request.ensures
