-- `Station::queue` meets its contract: the table of moves, then the checks, then the message joins.
use mathlib.Core.Path.{sym, ◌∙◌}
use Prim.Native.Nat.{◌≤◌}
use native.Mathlib.Omega.{arith}
use Rattle.station.specs.Queue.{queue_rule}
use Rattle.station.proofs.Laws.Moved.{moved_runs, moved_stops, unless_passes, unless_refuses}
use Rattle.parts.proofs.Laws.Queue.{queue_good}
use borrow.Author.Rules.{rules}
use Rattle.station.proofs.station.Station.queue.Goals as goal

pub returns-then-m-ne-RUN : goal.returns-then-m-ne-RUN
unfolding queue_rule
returns-then-m-ne-RUN c = c.answered.ensures ∙ sym (moved_stops _ _ _ c.move_of-m.ensures c.if-m-ne-RUN.true)

pub returns-then-k-ne0 : goal.returns-then-k-ne0
unfolding queue_rule
returns-then-k-ne0 c = c.answered-then-k-ne0.ensures ∙ sym (moved_runs _ _ _ c.move_of-m.ensures c.if-m-ne-RUN.false ∙ unless_refuses _ _ _ c.queue_number-k.ensures c.if-k-ne0.true)

pub accept-requires : goal.accept-requires
accept-requires c =
    let g = queue_good _ _ _ _ _ (sym c.queue_number-k.ensures ∙ c.if-k-ne0.false) in
    let b : c.args.self.n ≤ 255 = search rules in
    record { to_fits = omega (arith, g.member); priority_fits = g.priority_fits; channel_fits = omega (arith, g.channel_fits); length_fits = omega (arith, g.length_fits) }

pub returns : goal.returns
unfolding queue_rule
returns c = c.accept.ensures ∙ sym (moved_runs _ _ _ c.move_of-m.ensures c.if-m-ne-RUN.false ∙ unless_passes _ _ _ c.queue_number-k.ensures c.if-k-ne0.false)
