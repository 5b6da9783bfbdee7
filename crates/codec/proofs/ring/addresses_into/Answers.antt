-- `ring::addresses_into` meets its contract: the number that is handed over is the form's stride.
use mathlib.Core.Path.{◌≡◌, sym, ap, ◌∙◌}
use borrow.Author.Tests.{ne_eqb}
use borrow.Author.Rules.{rules}
use Rattle.codec.specs.Ring.{stride}
use Rattle.codec.proofs.ring.addresses_into.Goals as goal

pub addresses_by-requires : goal.addresses_by-requires
addresses_by-requires c =
    let p = c.requires in
    (p.0, search rules, sym (ap stride (sym p.2 ∙ c.if-number-eq2.true)), p.3)

pub returns-then-number-eq2 : goal.returns-then-number-eq2
returns-then-number-eq2 c = c.addresses_by.ensures

pub addresses_by-requires-2 : goal.addresses_by-requires-2
addresses_by-requires-2 c =
    let p = c.requires in
    let six : stride c.args.number ≡ 6 = simp (ne_eqb _ _ c.if-number-eq2.false) in
    (p.0, search rules, sym (ap stride (sym p.2) ∙ six), p.3)

pub returns : goal.returns
returns c = c.addresses_by-2.ensures
