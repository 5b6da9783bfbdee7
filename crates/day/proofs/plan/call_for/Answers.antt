-- `going::call_for` meets its contract, event by event.
use mathlib.Core.Path.{sym, ap, ◌∙◌}
use Prim.Native.Nat.{ℕ}
use lib.Dec.{ltb}
use Rattle.std.specs.Prelude.{Some}
use Rattle.day.specs.Wire.{flying_of}
use Rattle.day.specs.Plans.{call_for}
use Rattle.day.specs.declared.calls.Call.TheVariants.{TimerCall}
use Rattle.day.proofs.plan.call_for.Goals as goal

pub returns-in-Timer : goal.returns-in-Timer
returns-in-Timer c =
    let a = c.args in ap (λ (n : ℕ). Some (TimerCall (ltb n 64))) c.count-room.ensures ∙ sym (ap (call_for (flying_of a.w)) c.in-Timer.is)

pub returns-in-Queue : goal.returns-in-Queue
returns-in-Queue c =
    let a = c.args in sym (ap (call_for (flying_of a.w)) c.in-Queue.is)
