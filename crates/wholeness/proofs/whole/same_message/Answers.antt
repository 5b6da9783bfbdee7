-- `whole::same_message` meets its contract: at each return the tests that led there say which is the first that fails.
use borrow.Author.Tests.{eq-eqb, ne_eqb}
use Rattle.parts.specs.Choose.{pick, all_of}
use Rattle.wholeness.specs.Whole.{same_message}
use Rattle.wholeness.proofs.whole.same_message.Goals as goal

pub returns-in_default : goal.returns-in_default
unfolding same_message all_of pick
returns-in_default c = simp c.in_default.is

pub returns-then-m-to : goal.returns-then-m-to
unfolding same_message all_of pick
returns-then-m-to c = simp (c.in-Some.is, ne_eqb _ _ c.if-m-to.true)

pub returns-then-m-i : goal.returns-then-m-i
unfolding same_message all_of pick
returns-then-m-i c = simp (c.in-Some.is, eq-eqb _ _ c.if-m-to.false, ne_eqb _ _ c.if-m-i.true)

pub returns-then-m-i-2 : goal.returns-then-m-i-2
unfolding same_message all_of pick
returns-then-m-i-2 c = simp (c.in-Some.is, eq-eqb _ _ c.if-m-to.false, eq-eqb _ _ c.if-m-i.false, ne_eqb _ _ c.if-m-i-2.true)

pub returns-then-m-i-3 : goal.returns-then-m-i-3
unfolding same_message all_of pick
returns-then-m-i-3 c = simp (c.in-Some.is, eq-eqb _ _ c.if-m-to.false, eq-eqb _ _ c.if-m-i.false, eq-eqb _ _ c.if-m-i-2.false, ne_eqb _ _ c.if-m-i-3.true)

pub returns : goal.returns
unfolding same_message all_of pick
returns c = simp (c.in-Some.is, eq-eqb _ _ c.if-m-to.false, eq-eqb _ _ c.if-m-i.false, eq-eqb _ _ c.if-m-i-2.false, eq-eqb _ _ c.if-m-i-3.false)
