-- `wire::join` meets its contract: nothing, or one frame more.
use mathlib.Core.Path.{◌≡◌}
use lib.ListN.{length}
use Rattle.parts.proofs.Laws.Messages.{length_mapped}
use Rattle.day.proofs.Laws.Wire.{join_none, join_one}
use Rattle.day.proofs.wire.join.Goals as goal

pub returns-in-None : goal.returns-in-None
returns-in-None c =
    let a = c.args in let h : length a.w.items ≡ 64 = search length_mapped in join_none a.w h a.p a.d c.in-None.is

pub returns-in-Some : goal.returns-in-Some
returns-in-Some c =
    let a = c.args in let h : length a.w.items ≡ 64 = search length_mapped in join_one a.w h _ a.p a.d _ _ c.in-Some.is c.push.ensures
