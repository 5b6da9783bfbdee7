-- `calls::do_call` meets its contract, call by call.
use mathlib.Core.Path.{sym, ap, ◌∙◌}
use Rattle.std.specs.Prelude.{Some}
use Rattle.station.specs.declared.station.Answer.{Answer}
use Rattle.day.specs.Calls.{refused_by}
use Rattle.day.specs.declared.calls.Call.{Call}
use Rattle.day.proofs.Laws.Asking.{call_none, call_timed, call_queue}
use Rattle.day.proofs.calls.do_call.Goals as goal

pub returns-in_default : goal.returns-in_default
returns-in_default c = c.refused.ensures ∙ sym (call_none _ _ c.in_default.is)

pub returns-in-TimerCall : goal.returns-in-TimerCall
returns-in-TimerCall c =
    let a = c.args in
    call_timed a.s a.c _ _ _ (c.in-Some.is ∙ ap (λ (d : Call). Some d) c.in-TimerCall.is) c.timer-a.ensures c.timed.ensures

pub returns-in-QueueCall : goal.returns-in-QueueCall
returns-in-QueueCall c =
    let a = c.args in
    c.refused-in-QueueCall.ensures
    ∙ ap (λ (x : Answer). refused_by x.station x.number) c.queue-a.ensures
    ∙ sym (call_queue a.s a.c _ (c.in-Some.is ∙ ap (λ (d : Call). Some d) c.in-QueueCall.is))
