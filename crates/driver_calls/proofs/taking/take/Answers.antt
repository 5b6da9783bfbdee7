-- `taking::take` meets its contract: at each return the tests that led there say which number it is, and what is left. Assumes nothing.
use mathlib.Core.Path.{ap, ◌≡◌, ◌∙◌}
use mathlib.Core.Bool.{not, false}
use native.Mathlib.Omega.{arith}
use lib.ListN.{length}
use Rattle.records.proofs.Laws.Load.{Held, none_held, opened_held}
use Rattle.driver_calls.specs.Calls.{bad_store}
use Rattle.driver_calls.proofs.Laws.Calls.{refused_9, refused_35, refused_own, done}
use Rattle.driver_calls.proofs.Laws.Handing.{store_bad, store_good, take_answer_lem, not_taken, all_taken}
use Rattle.driver_calls.proofs.taking.take.Goals as goal
use Rattle.driver_calls.proofs.taking.take.Goals.{Else-not-whole, Else-store-ne-STORE}

pub returns-then-store-ne-STORE : goal.returns-then-store-ne-STORE
returns-then-store-ne-STORE c = not_taken (refused_9 (store_bad c.if-store-ne-STORE.true))

good_buffers_at : (c : Else-store-ne-STORE) → bad_store (length c.args.store.now) ≡ false
good_buffers_at c = store_good c.if-store-ne-STORE.false

held_at : (c : Else-not-whole) → Held c.args.rec.now c.open-s.new.addresses c.open-s.result.n c.open-s.result
held_at c = opened_held c.open-s.ensures c.whole.ensures (ap not c.if-not-whole.false)

pub whole-requires : goal.whole-requires
whole-requires c = c.open-s.ensures.blank

pub returns-then-not-whole : goal.returns-then-not-whole
returns-then-not-whole c = not_taken (refused_35 (good_buffers_at (goal.at.returns-then-not-whole c).Else-store-ne-STORE) (none_held c.open-s.ensures c.whole.ensures (ap not c.if-not-whole.true)))

pub returns-then-a-ne0 : goal.returns-then-a-ne0
returns-then-a-ne0 c =
    let a = c.args in
    let b = take_answer_lem (held_at (goal.at.returns-then-a-ne0 c).Else-not-whole) a.channel a.room.now _ c.take-a.ensures in
    not_taken (refused_own (good_buffers_at (goal.at.returns-then-a-ne0 c).Else-store-ne-STORE) (held_at (goal.at.returns-then-a-ne0 c).Else-not-whole).ok _ b c.if-a-ne0.true)

pub save-requires : goal.save-requires
save-requires c =
    let h = (held_at (goal.at.save-requires c).Else-not-whole).sized in
    omega (arith, h)

pub returns : goal.returns
returns c =
    let a = c.args in
    let b = take_answer_lem (held_at (goal.at.returns c).Else-not-whole) a.channel a.room.now _ c.take-a.ensures in
    all_taken _ _ _ _ _ _ (done (good_buffers_at (goal.at.returns c).Else-store-ne-STORE) (held_at (goal.at.returns c).Else-not-whole).ok _ b c.if-a-ne0.false) b
    (c.members.ensures ∙ (held_at (goal.at.returns c).Else-not-whole).members)
    c.taken_part.ensures
    c.save.ensures
    c.lay_taken.ensures
    c.tell_taken.ensures
