-- `telling::tell_taken` meets its contract.
use Rattle.driver_buffers.specs.Telling.{taken_told}
use Rattle.driver_buffers.proofs.telling.tell_taken.Goals as goal

pub returns-in-None : goal.returns-in-None
unfolding taken_told
returns-in-None c = rw c.in-None.is

pub returns-in-Some : goal.returns-in-Some
unfolding taken_told
returns-in-Some c = rw (c.in-Some.is, c.address_of-other.ensures)
