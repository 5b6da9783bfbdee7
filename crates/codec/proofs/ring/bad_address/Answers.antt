-- `ring::bad_address` meets its contract: each test is the definition's.
use borrow.Author.Tests.{eq-eqb, ne_eqb}
use Rattle.codec.specs.Ring.{bad_address}
use Rattle.codec.proofs.ring.bad_address.Goals as goal

pub returns-then-address-eq0 : goal.returns-then-address-eq0
unfolding bad_address
returns-then-address-eq0 c = simp (eq-eqb _ _ c.if-address-eq0.true)

pub returns : goal.returns
unfolding bad_address
returns c = simp (ne_eqb _ _ c.if-address-eq0.false)
