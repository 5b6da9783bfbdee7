use Rattle.std.proofs.Common.{arith}
use Rattle.std.proofs.lemmas.Bool.Decides.{nat_tests}
use Rattle.script.specs.Script.{opens}
use Rattle.script.proofs.session.opens.Goals as goal

pub returns : goal.returns
unfolding opens
returns c =
    let range = c.new.ensures in
    let e = rw (range.start, range.end, range.exhausted) at c.contains.ensures.value in
    grind (arith, nat_tests)
