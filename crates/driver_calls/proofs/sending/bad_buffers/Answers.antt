-- `sending::bad_buffers` meets its contract.
use borrow.Author.Tests.{eq-eqb, ne_eqb}
use Rattle.parts.specs.Choose.{pick}
use Rattle.driver_calls.specs.Calls.{bad_buffers}
use Rattle.driver_calls.proofs.sending.bad_buffers.Goals as goal

pub returns-then-store-ne-STORE : goal.returns-then-store-ne-STORE
unfolding bad_buffers pick
returns-then-store-ne-STORE c = simp (ne_eqb _ _ c.if-store-ne-STORE.true)

pub returns : goal.returns
unfolding bad_buffers pick
returns c = simp (eq-eqb _ _ c.if-store-ne-STORE.false)
