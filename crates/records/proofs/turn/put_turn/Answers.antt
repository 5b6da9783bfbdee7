-- `turn::put_turn` meets its contract: its writes, side by side, are one.
use mathlib.Core.Path.{refl, ◌∙◌}
use mathlib.Core.List.{◌++◌}
use native.Mathlib.Omega.{arith}
use Rattle.codec.specs.Octets.{octets}
use Rattle.codec.proofs.Laws.Octets.{laid_three}
use Rattle.parts.specs.Moves.{state_number}
use Rattle.records.specs.Layout.{own_at, handled_at, awaited_at}
use Rattle.records.specs.Fields.{handled_octets, slip_of, slip_octets}
use Rattle.records.proofs.turn.put_turn.Goals as goal

pub returns : goal.returns
returns c =
    let a = c.args in
    let t = a.t in
    laid_three a.out.now _ _ _ (octets 1 a.own ++ (octets 1 (state_number t.state) ++ octets 1 t.retries)) (handled_octets t.handled) (slip_octets (slip_of t.awaited)) own_at handled_at awaited_at refl refl (omega (arith, c.requires)) (c.put_three.ensures ∙ rw c.state_number-number.ensures) c.put_handled.ensures (c.put_slip.ensures ∙ rw c.slip_of-slip.ensures)
