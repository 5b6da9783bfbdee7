-- `live::without` meets its contract: past the set nothing is stored.
use Rattle.std.proofs.Common.{◌≡◌, Bool, false, List, length, sym, ap, arith, rules}
use lib.Seq.{set_out}
use Rattle.parts.specs.declared.live.Live.{Live}
use Rattle.parts.proofs.live.without.Goals as goal

pub returns : goal.returns
returns c =
    let a = c.args in
    let h : length a.live.on ≡ 64 = search rules in
    ap (λ (xs : List Bool). let l : Live = record { on = xs } in l) (sym (set_out a.live.on a.p false (omega arith)))
