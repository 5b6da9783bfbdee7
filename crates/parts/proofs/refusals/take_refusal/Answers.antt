-- `refusals::take_refusal` meets its contract: at each return the tests that led there say which is the first that holds.
use Rattle.std.proofs.Common.{le-ltb, lt-ltb}
use Rattle.parts.specs.Refusals.{take_refusal}
use Rattle.parts.proofs.refusals.take_refusal.Goals as goal

pub returns-then-channel-gt7 : goal.returns-then-channel-gt7
unfolding take_refusal
returns-then-channel-gt7 c = rw (lt-ltb _ _ c.if-channel-gt7.true)

pub returns-in_default : goal.returns-in_default
unfolding take_refusal
returns-in_default c = rw (le-ltb _ _ c.if-channel-gt7.false, c.in_default.is)

pub returns-then-room-m : goal.returns-then-room-m
unfolding take_refusal
returns-then-room-m c = rw (le-ltb _ _ c.if-channel-gt7.false, c.in-Some.is, lt-ltb _ _ c.if-room-m.true)

pub returns : goal.returns
unfolding take_refusal
returns c = rw (le-ltb _ _ c.if-channel-gt7.false, c.in-Some.is, le-ltb _ _ c.if-room-m.false)
