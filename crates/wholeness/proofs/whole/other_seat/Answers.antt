-- `whole::other_seat` meets its contract: the state says which clause it is.
use Rattle.wholeness.specs.Whole.{other_seat}
use Rattle.wholeness.proofs.whole.other_seat.Goals as goal

pub returns-in-Offline : goal.returns-in-Offline
unfolding other_seat
returns-in-Offline c = rw c.in-Offline.is

pub returns-in-Idle : goal.returns-in-Idle
unfolding other_seat
returns-in-Idle c = rw c.in-Idle.is

pub returns-in-Waiting : goal.returns-in-Waiting
unfolding other_seat
returns-in-Waiting c = rw c.in-Waiting.is

pub returns-in-Alone : goal.returns-in-Alone
unfolding other_seat
returns-in-Alone c = rw c.in-Alone.is

pub returns-in-Excluded : goal.returns-in-Excluded
unfolding other_seat
returns-in-Excluded c = rw c.in-Excluded.is
