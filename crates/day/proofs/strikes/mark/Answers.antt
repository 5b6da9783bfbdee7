-- `strikes::mark` meets its contract: a position past the set changes nothing.
use mathlib.Core.Path.{◌≡◌, sym, ap}
use mathlib.Core.Bool.{Bool}
use mathlib.Core.List.{List}
use native.Mathlib.Omega.{arith}
use lib.ListN.{length}
use lib.Seq.{set_out}
use Rattle.parts.specs.declared.live.Live.{Live}
use borrow.Author.Rules.{rules}
use Rattle.day.proofs.strikes.mark.Goals as goal

pub returns : goal.returns
returns c =
    let a = c.args in let h : length a.l.on ≡ 64 = search rules in ap (λ (xs : List Bool). let l : Live = record { on = xs } in l) (sym (set_out a.l.on a.p a.b (omega arith)))
