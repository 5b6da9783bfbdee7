-- `turn::turn_at` meets its contract: each field is what its octets say.
use Rattle.records.proofs.turn.turn_at.Goals as goal

pub returns : goal.returns
returns c = rw (c.state_from-state.ensures, c.dispatch_from-awaited.ensures, c.slip_at.ensures, c.handled_from-handled.ensures, c.get.ensures.0, c.get-2.ensures.0, c.get-3.ensures.0, c.get-4.ensures.0)
