-- `strikes::strikes` meets its contract: nobody fails, the frame is not heeded, or whoever was live.
use mathlib.Core.Path.{sym, ◌∙◌}
use Rattle.day.proofs.Laws.Strikes.{strikes_none, strikes_not, strikes_live}
use Rattle.day.proofs.strikes.strikes.Goals as goal

pub returns-in_default : goal.returns-in_default
returns-in_default c =
    let a = c.args in strikes_none a.s a.p a.h (sym c.failing_of-failing.ensures ∙ c.in_default.is)

pub returns-then-not-heeds : goal.returns-then-not-heeds
returns-then-not-heeds c =
    let a = c.args in strikes_not a.s a.p a.h (sym c.heeds.ensures ∙ c.if-not-heeds.true)

pub returns : goal.returns
returns c =
    let a = c.args in c.live_at.ensures ∙ strikes_live a.s a.p a.h _ (sym c.failing_of-failing.ensures ∙ c.in-Some.is) (sym c.heeds.ensures ∙ c.if-not-heeds.false)
