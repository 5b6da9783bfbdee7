-- `made_of` meets its contract: at each return the tests that led there say which is the first that holds.
use borrow.Author.Tests.{lt-ltb, le-ltb, eq-eqb, ne_eqb}
use Rattle.rtep.specs.Told.{made_of}
use Rattle.rtep.proofs.made_of.Goals as goal

pub returns-then-identifier-lt1 : goal.returns-then-identifier-lt1
unfolding made_of
returns-then-identifier-lt1 c = simp (lt-ltb _ _ c.if-identifier-lt1.true)

pub returns-then-identifier-gt3 : goal.returns-then-identifier-gt3
unfolding made_of
returns-then-identifier-gt3 c = simp (le-ltb _ _ c.if-identifier-lt1.false, lt-ltb _ _ c.if-identifier-gt3.true)

pub returns-then-priority-gt255 : goal.returns-then-priority-gt255
unfolding made_of
returns-then-priority-gt255 c = simp (le-ltb _ _ c.if-identifier-lt1.false, le-ltb _ _ c.if-identifier-gt3.false, lt-ltb _ _ c.if-priority-gt255.true)

pub returns-then-number-gt65535 : goal.returns-then-number-gt65535
unfolding made_of
returns-then-number-gt65535 c = simp (le-ltb _ _ c.if-identifier-lt1.false, le-ltb _ _ c.if-identifier-gt3.false, le-ltb _ _ c.if-priority-gt255.false, lt-ltb _ _ c.if-number-gt65535.true)

pub returns-then-identifier-eq3 : goal.returns-then-identifier-eq3
unfolding made_of
returns-then-identifier-eq3 c = simp (le-ltb _ _ c.if-identifier-lt1.false, le-ltb _ _ c.if-identifier-gt3.false, le-ltb _ _ c.if-priority-gt255.false, le-ltb _ _ c.if-number-gt65535.false, eq-eqb _ _ c.if-identifier-eq3.true) c.head_made.ensures

pub returns : goal.returns
unfolding made_of
returns c = simp (le-ltb _ _ c.if-identifier-lt1.false, le-ltb _ _ c.if-identifier-gt3.false, le-ltb _ _ c.if-priority-gt255.false, le-ltb _ _ c.if-number-gt65535.false, ne_eqb _ _ c.if-identifier-eq3.false) c.short_made.ensures
