-- `hearing::decide_call` meets its contract: in each arm the call is that variant.
use mathlib.Core.Path.{◌∙◌}
use Rattle.driver_calls.proofs.hearing.decide_call.Goals as goal

pub returns-in-Start : goal.returns-in-Start
returns-in-Start c = c.decide_start.ensures ∙ rw c.in-Start.is

pub returns-in-Timer : goal.returns-in-Timer
returns-in-Timer c = c.decide_timer.ensures ∙ rw c.in-Timer.is

pub returns-in-Frame : goal.returns-in-Frame
returns-in-Frame c = c.decide_packet.ensures ∙ rw c.in-Frame.is
