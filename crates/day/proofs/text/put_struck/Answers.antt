-- `text::put_struck` meets its contract: nothing, or a strike.
use Rattle.day.proofs.Laws.Lines.{struck_none, struck_one}
use Rattle.day.proofs.text.put_struck.Goals as goal

pub returns-in_default : goal.returns-in_default
returns-in_default c =
    let a = c.args in struck_none a.out.now a.at a.w a.q c.in_default.is

pub returns : goal.returns
returns c =
    let a = c.args in struck_one a.out.now _ a.at _ _ a.q a.w c.in-Some.is c.put_strike.ensures
