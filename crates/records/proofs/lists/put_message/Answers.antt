-- `lists::put_message` meets its contract: its writes, side by side, are one.
use mathlib.Core.Path.{refl}
use mathlib.Core.List.{◌++◌}
use Prim.Native.Nat.{◌+◌}
use native.Mathlib.Omega.{arith}
use Rattle.codec.specs.Octets.{octets}
use Rattle.codec.proofs.Laws.Octets.{then_laid}
use Rattle.records.specs.Layout.{message_place_in}
use Rattle.records.proofs.lists.put_message.Goals as goal

pub returns : goal.returns
returns c =
    let a = c.args in
    let m = a.m in
    then_laid a.out.now _ _ (octets 1 m.other ++ (octets 1 m.priority ++ octets 1 m.channel)) (octets 1 m.place ++ octets 2 m.length) a.at (a.at + message_place_in) refl (omega (arith, c.requires)) c.put_three.ensures c.put_two.ensures
