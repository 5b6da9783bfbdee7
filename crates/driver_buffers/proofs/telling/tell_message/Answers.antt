-- `telling::tell_message` meets its contract: five numbers stored one behind the other.
use mathlib.Core.Path.{◌∙◌}
use Prim.Native.Nat.{◌+◌, ◌<◌}
use native.Mathlib.Omega.{arith}
use lib.ListN.{length, length-set}
use Rattle.driver_buffers.proofs.Laws.Stored.{five_stored}
use Rattle.driver_buffers.proofs.telling.tell_message.Goals as goal

pub bounds-told-at-2 : goal.bounds-told-at-2
bounds-told-at-2 c =
    let a = c.args in
    let h : a.at + 1 < length a.told.now = omega arith in
    simp length-set h

pub bounds-told-at-3 : goal.bounds-told-at-3
bounds-told-at-3 c =
    let a = c.args in
    let h : a.at + 2 < length a.told.now = omega arith in
    simp length-set h

pub bounds-told-at-4 : goal.bounds-told-at-4
bounds-told-at-4 c =
    let a = c.args in
    let h : a.at + 3 < length a.told.now = omega arith in
    simp length-set h

pub bounds-told-at-5 : goal.bounds-told-at-5
bounds-told-at-5 c =
    let a = c.args in
    let h : a.at + 4 < length a.told.now = omega arith in
    simp length-set h

pub returns : goal.returns
returns c =
    let a = c.args in
    five_stored a.told.now a.at _ _ _ _ _ c.requires ∙ rw c.address_of.ensures
