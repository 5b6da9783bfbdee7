-- `sending::start` meets its contract: at each return the tests that led there say which number it is, and what is left.
use mathlib.Core.Path.{ap, ◌≡◌, refl}
use mathlib.Core.Bool.{not, false}
use mathlib.Core.List.{[]}
use Prim.Native.Nat.{zero-le}
use borrow.Author.Tests.{lt-ltb, le-ltb}
use lib.ListN.{length}
use Rattle.station.specs.Start.{start_rule}
use Rattle.station.specs.Decide.{decided_start}
use Rattle.station.proofs.Laws.Decide.{start_so}
use Rattle.records.proofs.Laws.Load.{Held, none_held, opened_held}
use Rattle.driver_calls.specs.Calls.{bad_out}
use Rattle.driver_calls.proofs.Laws.Calls.{few_held, refused_9, refused_35, not_sent, holds, station_refuses, station_sends}
use Rattle.driver_calls.proofs.sending.start.Goals as goal
use Rattle.driver_calls.proofs.sending.start.Goals.{Else-not-whole, Else-out-lt-LONGEST}

pub returns-then-out-lt-LONGEST : goal.returns-then-out-lt-LONGEST
returns-then-out-lt-LONGEST c = not_sent (refused_9 (lt-ltb _ _ c.if-out-lt-LONGEST.true))

good_buffers_at : (c : Else-out-lt-LONGEST) → bad_out (length c.args.out.now) ≡ false
good_buffers_at c = le-ltb _ _ c.if-out-lt-LONGEST.false

held_at : (c : Else-not-whole) → Held c.args.rec.now c.open-s.new.addresses c.open-s.result.n c.open-s.result
held_at c = opened_held c.open-s.ensures c.whole.ensures (ap not c.if-not-whole.false)

pub whole-requires : goal.whole-requires
whole-requires c = c.open-s.ensures.blank

pub returns-then-not-whole : goal.returns-then-not-whole
returns-then-not-whole c = not_sent (refused_35 (good_buffers_at (goal.at.returns-then-not-whole c).Else-out-lt-LONGEST) (none_held c.open-s.ensures c.whole.ensures (ap not c.if-not-whole.true)))

pub decide_call-v-requires : goal.decide_call-v-requires
decide_call-v-requires c = few_held (held_at (goal.at.decide_call-v-requires c).Else-not-whole) _ c.members.ensures

pub returns-then-v-ne0 : goal.returns-then-v-ne0
returns-then-v-ne0 c =
    station_refuses start_rule decided_start start_so (λ d. []) (good_buffers_at (goal.at.returns-then-v-ne0 c).Else-out-lt-LONGEST) (held_at (goal.at.returns-then-v-ne0 c).Else-not-whole) _ c.decide_call-v.ensures c.if-v-ne0.true

pub settle-requires : goal.settle-requires
settle-requires c =
    (holds (held_at (goal.at.settle-requires c).Else-not-whole), (c.if-out-lt-LONGEST.false, zero-le))

pub returns : goal.returns
returns c =
    station_sends start_rule decided_start start_so (λ d. []) (good_buffers_at (goal.at.returns c).Else-out-lt-LONGEST) (held_at (goal.at.returns c).Else-not-whole) _ c.decide_call-v.ensures c.if-v-ne0.false _ [] _ _ _ c.members-2.ensures refl
    c.settle.ensures.1
