use Rattle.std.proofs.Common.{◌-◌, length, ap, arith}
use Rattle.bench.specs.declared.running.Ran.{Ran}
use Rattle.script.proofs.Laws.Session.{fitting_most}
use Rattle.script.proofs.session.advance.Goals as goal

pub overflow_sub-result : goal.overflow_sub-result
overflow_sub-result c =
    let a = c.args in
    omega (arith, fitting_most a.count (length a.out.now - a.at), ap (λ (r : Ran). r.done) c.run-ran.ensures.0)
