-- `going::handing_for` meets its contract, event by event.
use mathlib.Core.Path.{sym, ◌∙◌}
use Rattle.day.proofs.Laws.Asking.{hands_delivered, hands_lost, hands_nobody, hands_timer, hands_queue}
use Rattle.day.proofs.plan.handing_for.Goals as goal

pub returns-in-Delivered : goal.returns-in-Delivered
returns-in-Delivered c =
    c.handing_with.ensures ∙ sym (hands_delivered _ _ _ c.in-Delivered.is)

pub returns-in-LostForAddressee : goal.returns-in-LostForAddressee
returns-in-LostForAddressee c =
    c.handing_with-in-LostForAddressee.ensures ∙ sym (hands_lost _ _ _ c.in-LostForAddressee.is)

pub returns-in-LostForAll : goal.returns-in-LostForAll
returns-in-LostForAll c =
    c.no_handing.ensures ∙ sym (hands_nobody _ _ _ c.in-LostForAll.is)

pub returns-in-Timer : goal.returns-in-Timer
returns-in-Timer c =
    c.no_handing-in-Timer.ensures ∙ sym (hands_timer _ _ _ _ c.in-Timer.is)

pub returns-in-Queue : goal.returns-in-Queue
returns-in-Queue c =
    c.no_handing-in-Queue.ensures ∙ sym (hands_queue _ _ _ _ _ c.in-Queue.is)
