-- `channels::open_too` meets its contract.
use Rattle.codec.proofs.channels.open_too.Goals as goal

pub returns-then-all : goal.returns-then-all
returns-then-all c = rw c.if-all.true
