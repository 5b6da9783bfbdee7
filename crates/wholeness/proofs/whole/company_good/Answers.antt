-- `whole::company_good` meets its contract: the state says which clause it is.
use Rattle.wholeness.specs.Whole.{company_good}
use Rattle.wholeness.proofs.whole.company_good.Goals as goal

pub returns-in-Offline : goal.returns-in-Offline
unfolding company_good
returns-in-Offline c = rw c.in-Offline.is

pub returns-in-Idle : goal.returns-in-Idle
unfolding company_good
returns-in-Idle c = rw c.in-Idle.is

pub returns-in-Waiting : goal.returns-in-Waiting
unfolding company_good
returns-in-Waiting c = rw c.in-Waiting.is

pub returns-in-Alone : goal.returns-in-Alone
unfolding company_good
returns-in-Alone c = rw c.in-Alone.is

pub returns-in-Excluded : goal.returns-in-Excluded
unfolding company_good
returns-in-Excluded c = rw c.in-Excluded.is
