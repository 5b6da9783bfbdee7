-- `telling::tell_sent` meets its contract: four numbers stored one behind the other, and no message given up.
use mathlib.Core.Path.{◌∙◌}
use Prim.Native.Nat.{◌<◌, ◌≤◌}
use native.Mathlib.Omega.{arith}
use lib.ListN.{length, length-set}
use Rattle.parts.specs.Choose.{pick}
use Rattle.records.specs.Tables.{joined}
use Rattle.driver_buffers.proofs.Laws.Stored.{four_stored}
use Rattle.driver_buffers.proofs.telling.tell_sent.Goals as goal

pub bounds-told-1 : goal.bounds-told-1
bounds-told-1 c =
    let h : 1 < length c.args.told.now = omega arith in
    simp length-set h

pub bounds-told-2 : goal.bounds-told-2
bounds-told-2 c =
    let h : 2 < length c.args.told.now = omega arith in
    simp length-set h

pub bounds-told-3 : goal.bounds-told-3
bounds-told-3 c =
    let h : 3 < length c.args.told.now = omega arith in
    simp length-set h

pub returns : goal.returns
unfolding pick joined
returns c =
    let a = c.args in
    let h : 84 ≤ length a.told.now = c.requires in
    four_stored a.told.now 0 c.sent_size.result c.sent_to.result 0 0 (omega (arith, h)) ∙ rw (c.sent_size.ensures, c.sent_to.ensures)
