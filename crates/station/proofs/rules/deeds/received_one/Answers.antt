-- `deeds::received_one` meets its contract: 16 messages leave no room.
use mathlib.Core.Path.{sym}
use Rattle.parts.proofs.Laws.Choose.{pick_true, pick_false}
use borrow.Author.Tests.{le-leb, lt-leb}
use Rattle.station.specs.Deeds.{received_one}
use Rattle.station.proofs.rules.deeds.received_one.Goals as goal

pub returns-then-l-ge16 : goal.returns-then-l-ge16
unfolding received_one
returns-then-l-ge16 c = rw c.add_up_to-more.ensures (sym (pick_true _ _ (le-leb _ _ c.if-l-ge16.true)))

pub returns : goal.returns
unfolding received_one
returns c = rw c.push-list.ensures (sym (pick_false _ _ (lt-leb _ _ c.if-l-ge16.false)))
