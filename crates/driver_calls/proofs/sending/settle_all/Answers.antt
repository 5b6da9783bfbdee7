-- `sending::settle_all` meets its contract: each buffer is its callee's.
use Rattle.driver_calls.proofs.Laws.Calls.{left_so}
use Rattle.driver_calls.proofs.sending.settle_all.Goals as goal

pub returns : goal.returns
returns c =
    left_so _ _ c.carried_out-a.ensures c.save.ensures
    c.compose.ensures
    c.tell.ensures
