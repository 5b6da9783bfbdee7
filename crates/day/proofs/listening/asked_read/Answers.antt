-- `listening::asked_read` meets its contract.
use mathlib.Core.Path.{sym, ap}
use Rattle.day.specs.Listening.{heard_in, asked_read}
use Rattle.day.proofs.Laws.Listening.{asked_good}
use Rattle.day.proofs.listening.asked_read.Goals as goal

pub returns-in-Refused : goal.returns-in-Refused
returns-in-Refused c =
    let a = c.args in sym (ap (asked_read (heard_in a.n a.channels)) c.in-Refused.is)

pub returns-in-Good : goal.returns-in-Good
returns-in-Good c = asked_good _ _ _ _ _ c.in-Good.is c.asked-event.ensures
