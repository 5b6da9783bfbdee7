-- `list::suits` meets its contract: in each arm the choice is that variant, and the test is the variant's.
use Rattle.std.proofs.Common.{sym, ◌∙◌}
use Rattle.parts.specs.Messages.{fits}
use Rattle.parts.proofs.list.suits.Goals as goal

pub returns-in-AnyWaiting : goal.returns-in-AnyWaiting
unfolding fits
returns-in-AnyWaiting c = rw (c.in-AnyWaiting.is, c.flies.ensures)

pub returns-then-flies : goal.returns-then-flies
unfolding fits
returns-then-flies c = rw (c.in-WaitingFor.is, sym c.flies-in-WaitingFor.ensures ∙ c.if-flies.true)

pub returns-else-flies : goal.returns-else-flies
unfolding fits
returns-else-flies c = rw (c.in-WaitingFor.is, sym c.flies-in-WaitingFor.ensures ∙ c.if-flies.false)

pub returns-then-flies-2 : goal.returns-then-flies-2
unfolding fits
returns-then-flies-2 c = rw (c.in-WaitingForOthers.is, sym c.flies-in-WaitingForOthers.ensures ∙ c.if-flies-2.true)

pub returns-else-flies-2 : goal.returns-else-flies-2
unfolding fits
returns-else-flies-2 c = rw (c.in-WaitingForOthers.is, sym c.flies-in-WaitingForOthers.ensures ∙ c.if-flies-2.false)

pub returns-in-HasPlace : goal.returns-in-HasPlace
unfolding fits
returns-in-HasPlace c = rw c.in-HasPlace.is

pub returns-in-OnChannel : goal.returns-in-OnChannel
unfolding fits
returns-in-OnChannel c = rw c.in-OnChannel.is
