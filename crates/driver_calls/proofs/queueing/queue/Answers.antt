-- `queueing::queue` meets its contract: at each return the tests that led there say which number it is, and what is left. Assumes nothing.
use mathlib.Core.Path.{ap, ◌≡◌}
use mathlib.Core.Bool.{not, false}
use native.Mathlib.Omega.{arith}
use lib.ListN.{length}
use Rattle.records.proofs.Laws.Load.{Held, none_held, opened_held}
use Rattle.driver_calls.specs.Calls.{bad_store}
use Rattle.driver_calls.proofs.Laws.Calls.{refused_9, refused_35, refused_own, done}
use Rattle.driver_calls.proofs.Laws.Handing.{store_bad, store_good, request_fits, queue_answer_lem, not_queued, all_queued}
use Rattle.driver_calls.proofs.queueing.queue.Goals as goal
use Rattle.driver_calls.proofs.queueing.queue.Goals.{Else-not-whole, Else-store-ne-STORE}

pub returns-then-store-ne-STORE : goal.returns-then-store-ne-STORE
returns-then-store-ne-STORE c = not_queued (refused_9 (store_bad c.if-store-ne-STORE.true))

good_buffers_at : (c : Else-store-ne-STORE) → bad_store (length c.args.store.now) ≡ false
good_buffers_at c = store_good c.if-store-ne-STORE.false

held_at : (c : Else-not-whole) → Held c.args.rec.now c.open-s.new.addresses c.open-s.result.n c.open-s.result
held_at c = opened_held c.open-s.ensures c.whole.ensures (ap not c.if-not-whole.false)

pub whole-requires : goal.whole-requires
whole-requires c = c.open-s.ensures.blank

pub returns-then-not-whole : goal.returns-then-not-whole
returns-then-not-whole c = not_queued (refused_35 (good_buffers_at (goal.at.returns-then-not-whole c).Else-store-ne-STORE) (none_held c.open-s.ensures c.whole.ensures (ap not c.if-not-whole.true)))

pub request_of-q-requires : goal.request_of-q-requires
request_of-q-requires c = request_fits (held_at (goal.at.request_of-q-requires c).Else-not-whole) _ c.members.ensures

pub returns-then-a-ne0 : goal.returns-then-a-ne0
returns-then-a-ne0 c =
    let a = c.args in
    let b = queue_answer_lem (held_at (goal.at.returns-then-a-ne0 c).Else-not-whole) a.to a.priority a.channel (length a.payload.now) _ _ _ c.members.ensures c.request_of-q.ensures c.queue-a.ensures in
    not_queued (refused_own (good_buffers_at (goal.at.returns-then-a-ne0 c).Else-store-ne-STORE) (held_at (goal.at.returns-then-a-ne0 c).Else-not-whole).ok _ b c.if-a-ne0.true)

pub save-requires : goal.save-requires
save-requires c =
    let h = (held_at (goal.at.save-requires c).Else-not-whole).sized in
    omega (arith, h)

pub returns : goal.returns
returns c =
    let a = c.args in
    let b = queue_answer_lem (held_at (goal.at.returns c).Else-not-whole) a.to a.priority a.channel (length a.payload.now) _ _ _ c.members.ensures c.request_of-q.ensures c.queue-a.ensures in
    all_queued _ _ _ (done (good_buffers_at (goal.at.returns c).Else-store-ne-STORE) (held_at (goal.at.returns c).Else-not-whole).ok _ b c.if-a-ne0.false) b c.save.ensures c.put_queued.ensures
