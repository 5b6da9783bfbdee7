-- `heard::course_of` meets its contract: each part is its callee's.
use Rattle.station.proofs.rules.heard.course_of.Goals as goal

pub returns : goal.returns
returns c = rw (c.close-turn.ensures, c.blow_of-blow.ensures, c.failing_of-w.ensures, c.flight-flight.ensures, c.lands_by-lands.ensures, c.rest-t.ensures)
