-- `short_made` meets its contract: at each return the tests that led there say which is the first that holds.
use borrow.Author.Tests.{eq-eqb, ne_eqb}
use Rattle.rtep.specs.Told.{short_made}
use Rattle.rtep.proofs.short_made.Goals as goal

pub returns-then-channel-ne0 : goal.returns-then-channel-ne0
unfolding short_made
returns-then-channel-ne0 c = simp (ne_eqb _ _ c.if-channel-ne0.true)

pub returns-then-length-ne0 : goal.returns-then-length-ne0
unfolding short_made
returns-then-length-ne0 c = simp (eq-eqb _ _ c.if-channel-ne0.false, ne_eqb _ _ c.if-length-ne0.true)

pub returns-then-identifier-eq1 : goal.returns-then-identifier-eq1
unfolding short_made
returns-then-identifier-eq1 c = simp (eq-eqb _ _ c.if-channel-ne0.false, eq-eqb _ _ c.if-length-ne0.false, eq-eqb _ _ c.if-identifier-eq1.true)

pub returns : goal.returns
unfolding short_made
returns c = simp (eq-eqb _ _ c.if-channel-ne0.false, eq-eqb _ _ c.if-length-ne0.false, ne_eqb _ _ c.if-identifier-eq1.false)
