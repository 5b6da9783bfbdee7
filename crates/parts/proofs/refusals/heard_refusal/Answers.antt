-- `refusals::heard_refusal` meets its contract: at each return the tests that led there say which is the first that holds.
use Rattle.std.proofs.Common.{eq-eqb, ne_eqb, le-leb}
use borrow.Author.Tests.{lt-leb}
use Rattle.parts.specs.Refusals.{heard_refusal}
use Rattle.parts.proofs.refusals.heard_refusal.Goals as goal

pub returns-then-n-from : goal.returns-then-n-from
unfolding heard_refusal
returns-then-n-from c = simp (le-leb _ _ c.if-n-from.true)

pub returns-then-n-to : goal.returns-then-n-to
unfolding heard_refusal
returns-then-n-to c = simp (lt-leb _ _ c.if-n-from.false, le-leb _ _ c.if-n-to.true)

pub returns-then-from-to : goal.returns-then-from-to
unfolding heard_refusal
returns-then-from-to c = simp (lt-leb _ _ c.if-n-from.false, lt-leb _ _ c.if-n-to.false, eq-eqb _ _ c.if-from-to.true)

pub returns-then-not-alive : goal.returns-then-not-alive
unfolding heard_refusal
returns-then-not-alive c = simp (lt-leb _ _ c.if-n-from.false, lt-leb _ _ c.if-n-to.false, ne_eqb _ _ c.if-from-to.false, c.if-not-alive.true)

pub returns-then-from-own : goal.returns-then-from-own
unfolding heard_refusal
returns-then-from-own c = simp (lt-leb _ _ c.if-n-from.false, lt-leb _ _ c.if-n-to.false, ne_eqb _ _ c.if-from-to.false, c.if-not-alive.false, eq-eqb _ _ c.if-from-own.true)

pub returns : goal.returns
unfolding heard_refusal
returns c = simp (lt-leb _ _ c.if-n-from.false, lt-leb _ _ c.if-n-to.false, ne_eqb _ _ c.if-from-to.false, c.if-not-alive.false, ne_eqb _ _ c.if-from-own.false)
