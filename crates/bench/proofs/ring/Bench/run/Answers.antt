-- `Bench::run` meets its contract: as many steps as fit, all in one call over the lent table.
use mathlib.Core.Path.{refl, ap, ◌∙◌}
use Prim.Native.Nat.{ℕ, ◌-◌}
use native.Mathlib.Omega.{arith}
use lib.ListN.{length}
use Rattle.codec.specs.Octets.{laid}
use Rattle.bench.specs.Running.{steps_text}
use Rattle.bench.proofs.Laws.Running.{fitting_room}
use Rattle.bench.proofs.Laws.Stepping.{all_ran}
use Rattle.bench.proofs.ring.Bench.run.Goals as goal

pub run_in-r-requires : goal.run_in-r-requires
run_in-r-requires c =
    let a = c.args in
    (refl, omega (arith, fitting_room a.count (length a.out.now - a.at), c.fit_in-most.ensures))

pub returns : goal.returns
returns c =
    let a = c.args in
    let f = c.fit_in-most in
    let r = c.run_in-r in (
      all_ran a.self f.result a.at _ r.result f.ensures r.ensures.0,
      r.ensures.1 ∙ ap (λ (k : ℕ). laid a.out.now a.at (steps_text k a.self)) f.ensures,
    )
