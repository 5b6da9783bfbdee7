-- `moves::move_of` meets its contract: the entry that the two numbers name is the move.
use Rattle.std.proofs.Common.{arith}
use Rattle.parts.proofs.Laws.Moves.{state_below, event_below, table_at}
use Rattle.parts.proofs.moves.move_of.Goals as goal

pub offset_bounds-i : goal.offset_bounds-i
offset_bounds-i c = omega (arith, state_below c.args.s, c.state_number-i.ensures)

pub offset_bounds-i-j : goal.offset_bounds-i-j
offset_bounds-i-j c = omega (arith, event_below c.args.e, c.event_number-j.ensures)

pub returns : goal.returns
returns c = table_at c.args.s c.args.e _ _ c.state_number-i.ensures c.event_number-j.ensures
