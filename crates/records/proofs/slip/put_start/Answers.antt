-- `slip::put_start` meets its contract: its writes, side by side, are one.
use mathlib.Core.Path.{refl}
use mathlib.Core.List.{◌++◌}
use Prim.Native.Nat.{◌+◌}
use native.Mathlib.Omega.{arith}
use Rattle.codec.specs.Octets.{octets}
use Rattle.codec.proofs.Laws.Octets.{then_laid}
use Rattle.records.specs.Layout.{number_in}
use Rattle.records.proofs.slip.put_start.Goals as goal

pub returns : goal.returns
returns c =
    let a = c.args in
    let p = a.p in
    then_laid a.out.now _ _ (octets 1 p.kind ++ octets 1 p.to) (octets 2 p.number ++ octets 1 p.priority) a.at (a.at + number_in) refl (omega (arith, c.requires)) c.put_two.ensures c.put_two-2.ensures
