-- `listening::open_at` meets its contract: no octet stands behind the last place.
use mathlib.Core.Path.{◌≡◌, sym}
use native.Mathlib.Omega.{arith}
use lib.ListN.{length, get_or-eq_default}
use borrow.Author.Rules.{rules}
use Rattle.day.proofs.listening.open_at.Goals as goal

pub returns : goal.returns
returns c =
    let a = c.args in
    let size : length a.channels ≡ 64 = search rules in
    sym (get_or-eq_default a.channels 0 (omega (arith, size, c.if-p-lt64.false)))
