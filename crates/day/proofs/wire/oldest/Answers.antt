-- `wire::oldest` meets its contract: the first place.
use native.Mathlib.Omega.{arith}
use lib.ListN.{length}
use mathlib.Core.Path.{◌≡◌}
use Rattle.parts.proofs.Laws.Messages.{length_mapped}
use Rattle.day.proofs.Laws.Wire.{first_any}
use Rattle.day.proofs.wire.oldest.Goals as goal

pub returns : goal.returns
returns c =
    let a = c.args in let h : length a.w.items ≡ 64 = search length_mapped in first_any a.w.items _ _ (omega arith)
