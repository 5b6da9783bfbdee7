-- `sending::settle` meets its contract: one test, whether the turn alone changes; the record's other octets are then the station's already.
use native.Mathlib.Omega.{arith}
use Rattle.driver_calls.proofs.Laws.Calls.{holds_sized, turn_settled, all_settled}
use Rattle.driver_calls.proofs.sending.settle.Goals as goal

pub settle_turn-requires : goal.settle_turn-requires
settle_turn-requires c =
    let p = c.requires in
    (holds_sized p.0, (p.1.0, p.1.1))

pub returns-then-v : goal.returns-then-v
returns-then-v c =
    turn_settled _ _ _ _ _ _ _ _ _ _ (λ i. omega (arith, c.slice_known-1.given i))
    c.requires.0
    c.if-v.true
    c.settle_turn.ensures

pub settle_all-requires : goal.settle_all-requires
settle_all-requires c =
    let p = c.requires in
    (holds_sized p.0, (p.1.0, p.1.1))

pub returns : goal.returns
returns c =
    all_settled _ _ _ _ _ _ _ _ _ _ _ c.if-v.false
    c.settle_all.ensures
