-- `going::stop` meets its contract: one line.
use mathlib.Core.Path.{ap, ◌∙◌}
use Prim.Native.Nat.{ℕ}
use Rattle.day.specs.Wire.{flying_of}
use Rattle.replay.specs.Table.{way_of, moved_on}
use Rattle.replay.proofs.going.stop.Goals as goal

pub returns : goal.returns
returns c =
    let a = c.args in let p = c.put_stopped-used in (c.halt.ensures ∙ ap (λ (u : ℕ). moved_on (way_of a.g) (flying_of a.g.wire) a.g.at a.g.done a.number u) p.ensures.1, p.ensures.0)
