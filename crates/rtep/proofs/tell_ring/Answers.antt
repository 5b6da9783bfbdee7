-- `tell_ring` meets its contract: two numbers, and then the addresses, are one write.
use mathlib.Core.Path.{refl}
use mathlib.Core.List.{[], ◌∷◌}
use Prim.Native.Nat.{◌+◌, ◌<◌, ◌≤◌}
use native.Mathlib.Omega.{arith}
use lib.ListN.{length, length-set}
use lib.Seq.{sets-eq}
use Rattle.codec.proofs.Laws.Octets.{then_laid}
use Rattle.rtep.proofs.tell_ring.Goals as goal

pub bounds-told-0 : goal.bounds-told-0
bounds-told-0 c = omega arith

pub bounds-told-1 : goal.bounds-told-1
bounds-told-1 c =
    let h : 1 < length c.args.told.now = omega arith in
    simp length-set h

pub tell_addresses-requires : goal.tell_addresses-requires
tell_addresses-requires c =
    let a = c.args in
    let h : 2 + length a.members.now ≤ length a.told.now = omega arith in
    simp length-set h

pub returns : goal.returns
returns c =
    let a = c.args in
    let first = length a.members.now ∷ a.limit ∷ [] in
    then_laid a.told.now _ _ first a.members.now 0 2 refl (omega arith) (sets-eq first a.told.now 0 (omega arith)) c.tell_addresses.ensures
