-- `head_made` meets its contract: at each return the tests that led there say which is the first that holds.
use borrow.Author.Tests.{lt-ltb, le-ltb, eq-eqb, ne_eqb}
use Rattle.rtep.specs.Told.{head_made}
use Rattle.rtep.proofs.head_made.Goals as goal

pub returns-then-master-ne0 : goal.returns-then-master-ne0
unfolding head_made
returns-then-master-ne0 c = simp (ne_eqb _ _ c.if-master-ne0.true)

pub returns-then-failing-ne0 : goal.returns-then-failing-ne0
unfolding head_made
returns-then-failing-ne0 c = simp (eq-eqb _ _ c.if-master-ne0.false, ne_eqb _ _ c.if-failing-ne0.true)

pub returns-then-named-ne0 : goal.returns-then-named-ne0
unfolding head_made
returns-then-named-ne0 c = simp (eq-eqb _ _ c.if-master-ne0.false, eq-eqb _ _ c.if-failing-ne0.false, ne_eqb _ _ c.if-named-ne0.true)

pub returns-then-channel-gt65535 : goal.returns-then-channel-gt65535
unfolding head_made
returns-then-channel-gt65535 c = simp (eq-eqb _ _ c.if-master-ne0.false, eq-eqb _ _ c.if-failing-ne0.false, eq-eqb _ _ c.if-named-ne0.false, lt-ltb _ _ c.if-channel-gt65535.true)

pub returns-then-length-gt65535 : goal.returns-then-length-gt65535
unfolding head_made
returns-then-length-gt65535 c = simp (eq-eqb _ _ c.if-master-ne0.false, eq-eqb _ _ c.if-failing-ne0.false, eq-eqb _ _ c.if-named-ne0.false, le-ltb _ _ c.if-channel-gt65535.false, lt-ltb _ _ c.if-length-gt65535.true)

pub returns : goal.returns
unfolding head_made
returns c = simp (eq-eqb _ _ c.if-master-ne0.false, eq-eqb _ _ c.if-failing-ne0.false, eq-eqb _ _ c.if-named-ne0.false, le-ltb _ _ c.if-channel-gt65535.false, le-ltb _ _ c.if-length-gt65535.false)
