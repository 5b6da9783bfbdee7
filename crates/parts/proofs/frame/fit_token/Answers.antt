-- `frame::fit_token` meets its contract: at each return the tests that led there say which comes first.
use Rattle.std.proofs.Common.{le-leb}
use borrow.Author.Tests.{lt-leb}
use Rattle.parts.specs.Choose.{pick}
use Rattle.parts.proofs.frame.fit_token.Goals as goal

pub returns-then-n-t : goal.returns-then-n-t
unfolding pick
returns-then-n-t c = simp (le-leb _ _ c.if-n-t.true)

pub returns-then-n-t-2 : goal.returns-then-n-t-2
unfolding pick
returns-then-n-t-2 c = simp (lt-leb _ _ c.if-n-t.false, le-leb _ _ c.if-n-t-2.true)

pub returns : goal.returns
unfolding pick
returns c = simp (lt-leb _ _ c.if-n-t.false, lt-leb _ _ c.if-n-t-2.false) c.member_or_nobody.ensures
