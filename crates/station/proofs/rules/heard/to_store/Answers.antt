-- `heard::to_store` meets its contract: in each arm the frame is that variant.
use Rattle.station.specs.Decide.{to_store}
use Rattle.station.proofs.rules.heard.to_store.Goals as goal

pub returns-in-Token : goal.returns-in-Token
unfolding to_store
returns-in-Token c = rw c.in-Token.is

pub returns-in-Transmit : goal.returns-in-Transmit
unfolding to_store
returns-in-Transmit c = rw c.in-Transmit.is

pub returns-in-Information : goal.returns-in-Information
unfolding to_store
returns-in-Information c = rw (c.heard_message-m.ensures, c.in-Information.is)
