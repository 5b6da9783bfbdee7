-- `table::touched_from` meets its contract. The loop's invariant: what is left of the search is the whole.
use Rattle.std.proofs.Common.{◌-◌, ◌≡◌, ◌≤◌}
use Rattle.bench.specs.Table.{touched_in}
use Rattle.bench.proofs.table.touched_from.Given as goal

abbrev pub invariant-loop-q : goal.invariant-loop-q
invariant-loop-q l = (l.q ≤ l.h.m) × (touched_in (l.h.m - l.q) l.table l.h l.q ≡ touched_in (l.h.m - l.p) l.table l.h l.p)

abbrev pub decreases-loop-q : goal.decreases-loop-q
decreases-loop-q l = l.h.m - l.q
