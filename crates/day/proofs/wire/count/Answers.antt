-- `wire::count` meets its contract: never more than there are places.
use mathlib.Core.Path.{◌≡◌, sym}
use lib.ListN.{length}
use Rattle.parts.proofs.Laws.Messages.{length_mapped}
use Rattle.day.proofs.Laws.Wire.{flying_short, flying_full}
use Rattle.day.proofs.wire.count.Goals as goal

pub returns-then-w-lt64 : goal.returns-then-w-lt64
returns-then-w-lt64 c =
    let a = c.args in let h : length a.w.items ≡ 64 = search length_mapped in sym (flying_short a.w h c.if-w-lt64.true)

pub returns-else-w-lt64 : goal.returns-else-w-lt64
returns-else-w-lt64 c =
    let a = c.args in let h : length a.w.items ≡ 64 = search length_mapped in sym (flying_full a.w h c.if-w-lt64.false)
