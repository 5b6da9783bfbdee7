-- `ring::is_member` meets its contract: a pair has it, or the odd last one is it, or none has it.
use mathlib.Core.Path.{sym}
use native.Mathlib.Omega.{arith}
use Rattle.codec.proofs.Laws.Position.{no_member, last_member}
use Rattle.codec.proofs.ring.is_member.Goals as goal

pub returns-then-members-passed-gt1 : goal.returns-then-members-passed-gt1
returns-then-members-passed-gt1 c = sym (c.pairs_passed-passed.ensures.2 (omega arith))

pub returns-then-passed-members : goal.returns-then-passed-members
returns-then-passed-members c =
    let p = c.pairs_passed-passed in
    let a = c.args in
    sym (last_member a.members.now a.address p.result p.ensures.1 (omega arith) (omega arith))

pub returns : goal.returns
returns c =
    let p = c.pairs_passed-passed in
    let a = c.args in
    sym (no_member a.members.now a.address p.result p.ensures.1 (omega arith))
