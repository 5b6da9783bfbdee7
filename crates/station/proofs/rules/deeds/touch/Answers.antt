-- `deeds::touch` meets its contract: by its fields.
use Rattle.station.proofs.rules.deeds.touch.Goals as goal

pub returns : goal.returns
returns c = rw (c.add_up_to-givenup.ensures, c.live_after-live.ensures)
