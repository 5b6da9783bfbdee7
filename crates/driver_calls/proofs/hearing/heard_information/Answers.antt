-- `hearing::heard_information` meets its contract: the part that the stored message's length calls for, where the packet has it.
use Rattle.driver_calls.specs.Calls.{heard_information}
use Rattle.driver_calls.proofs.Laws.Hearing.{information_heard}
use borrow.Author.Rules.{rules}
use Rattle.driver_calls.proofs.hearing.heard_information.Goals as goal

pub returns-in-None : goal.returns-in-None
unfolding heard_information
returns-in-None c = search rules

pub returns-in-Some : goal.returns-in-Some
returns-in-Some c = information_heard _ _ _ _ c.in-Some.is c.information_in.ensures
