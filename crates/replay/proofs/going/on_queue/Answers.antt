-- `going::on_queue` meets its contract: its number, where it is refused.
use mathlib.Core.Path.{ap, ◌∙◌}
use Prim.Native.Nat.{ℕ, ◌+◌}
use Rattle.day.specs.Wire.{flying_of}
use Rattle.replay.specs.Table.{way_of, moved_on}
use Rattle.replay.proofs.going.on_queue.Goals as goal

pub returns : goal.returns
returns c =
    let a = c.args in let p = c.put_answer-used in (c.go_on.ensures ∙ ap (λ (u : ℕ). moved_on (way_of a.g) (flying_of a.g.wire) a.next (a.g.done + 1) 0 u) p.ensures.1, p.ensures.0)
