-- `whole::message_good` meets its contract: at each return the tests that led there say which is the first that fails.
use borrow.Author.Tests.{lt-ltb, le-ltb, le-leb, lt-leb, eq-eqb, ne_eqb}
use Rattle.parts.specs.Choose.{pick, all_of}
use Rattle.wholeness.specs.Whole.{message_good}
use Rattle.wholeness.proofs.whole.message_good.Goals as goal

pub returns-then-m-ge16 : goal.returns-then-m-ge16
unfolding message_good all_of pick
returns-then-m-ge16 c = simp (le-ltb _ _ c.if-m-ge16.true)

pub returns-then-m-eq0 : goal.returns-then-m-eq0
unfolding message_good all_of pick
returns-then-m-eq0 c = simp (lt-ltb _ _ c.if-m-ge16.false, eq-eqb _ _ c.if-m-eq0.true)

pub returns-then-m-gt7 : goal.returns-then-m-gt7
unfolding message_good all_of pick
returns-then-m-gt7 c = simp (lt-ltb _ _ c.if-m-ge16.false, ne_eqb _ _ c.if-m-eq0.false, lt-leb _ _ c.if-m-gt7.true)

pub returns-then-m-gt-INFORMATION : goal.returns-then-m-gt-INFORMATION
unfolding message_good all_of pick
returns-then-m-gt-INFORMATION c = simp (lt-ltb _ _ c.if-m-ge16.false, ne_eqb _ _ c.if-m-eq0.false, le-leb _ _ c.if-m-gt7.false, lt-leb _ _ c.if-m-gt-INFORMATION.true)

pub returns-then-n-m : goal.returns-then-n-m
unfolding message_good all_of pick
returns-then-n-m c = simp (lt-ltb _ _ c.if-m-ge16.false, ne_eqb _ _ c.if-m-eq0.false, le-leb _ _ c.if-m-gt7.false, le-leb _ _ c.if-m-gt-INFORMATION.false, le-ltb _ _ c.if-n-m.true)

pub returns-then-m-own : goal.returns-then-m-own
unfolding message_good all_of pick
returns-then-m-own c = simp (lt-ltb _ _ c.if-m-ge16.false, ne_eqb _ _ c.if-m-eq0.false, le-leb _ _ c.if-m-gt7.false, le-leb _ _ c.if-m-gt-INFORMATION.false, lt-ltb _ _ c.if-n-m.false, eq-eqb _ _ c.if-m-own.true)

pub returns : goal.returns
unfolding message_good all_of pick
returns c = simp (lt-ltb _ _ c.if-m-ge16.false, ne_eqb _ _ c.if-m-eq0.false, le-leb _ _ c.if-m-gt7.false, le-leb _ _ c.if-m-gt-INFORMATION.false, lt-ltb _ _ c.if-n-m.false, ne_eqb _ _ c.if-m-own.false)
