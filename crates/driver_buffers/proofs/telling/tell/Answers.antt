-- `telling::tell` meets its contract: four numbers stored one behind the other, then the messages given up.
use mathlib.Core.Path.{refl, ◌∙◌}
use mathlib.Core.List.{[], ◌∷◌}
use Prim.Native.Nat.{◌<◌, ◌≤◌}
use native.Mathlib.Omega.{arith}
use lib.ListN.{length, length-set}
use Rattle.codec.proofs.Laws.Octets.{then_laid}
use Rattle.driver_buffers.specs.Telling.{gone_told}
use Rattle.driver_buffers.proofs.Laws.Stored.{four_stored}
use Rattle.driver_buffers.proofs.telling.tell.Goals as goal

pub bounds-told-1 : goal.bounds-told-1
bounds-told-1 c =
    let h : 1 < length c.args.told.now = omega arith in
    simp length-set h

pub bounds-told-2 : goal.bounds-told-2
bounds-told-2 c =
    let h : 2 < length c.args.told.now = omega arith in
    simp length-set h

pub bounds-told-3 : goal.bounds-told-3
bounds-told-3 c =
    let h : 3 < length c.args.told.now = omega arith in
    simp length-set h

pub returns : goal.returns
returns c =
    let a = c.args in
    let h : 84 ≤ length a.told.now = c.requires in
    then_laid a.told.now _ _ (c.sent_size.result ∷ c.sent_to.result ∷ c.whom_address.result ∷ c.count.result ∷ []) (gone_told a.ring.now a.gone) 0 4 refl (omega (arith, h)) (four_stored a.told.now 0 _ _ _ _ (omega (arith, h))) c.tell_gone.ensures ∙ rw (c.sent_size.ensures, c.sent_to.ensures, c.whom_address.ensures, c.count.ensures)
