-- `lists::put_messages` meets its contract: its writes, side by side, are one.
use mathlib.Core.Path.{refl}
use Prim.Native.Nat.{◌+◌}
use native.Mathlib.Omega.{arith}
use Rattle.codec.specs.Octets.{octets}
use Rattle.codec.proofs.Laws.Octets.{then_laid}
use Rattle.records.specs.Layout.{items_in}
use Rattle.records.specs.Fields.{items_octets}
use Rattle.records.proofs.lists.put_messages.Goals as goal

pub returns : goal.returns
returns c =
    let a = c.args in
    then_laid a.out.now _ _ (octets 1 a.l.len) (items_octets a.l.items) a.at (a.at + items_in) refl (omega (arith, c.requires)) c.put.ensures c.put_items.ensures
