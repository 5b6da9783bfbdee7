-- `live::live_at` meets its contract: past the set the entry read is the default.
use Rattle.std.proofs.Common.{◌≡◌, false, length, sym, arith, rules}
use lib.ListN.{get_or-eq_default}
use Rattle.parts.proofs.live.live_at.Goals as goal

pub returns-else-p-lt64 : goal.returns-else-p-lt64
returns-else-p-lt64 c =
    let a = c.args in
    let h : length a.live.on ≡ 64 = search rules in
    sym (get_or-eq_default a.live.on false (omega arith))
