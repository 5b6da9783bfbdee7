-- `sending::timer` meets its contract: at each return the tests that led there say which number it is, and what is left.
use mathlib.Core.Path.{ap, ◌≡◌, sym, ◌∙◌}
use mathlib.Core.Bool.{not, false}
use lib.ListN.{length}
use Rattle.station.specs.Timer.{timer_rule}
use Rattle.station.specs.Decide.{decided_timer}
use Rattle.station.proofs.Laws.Decide.{timer_so}
use Rattle.records.proofs.Laws.Load.{Held, none_held, opened_held}
use Rattle.driver_buffers.specs.Places.{information_of}
use Rattle.driver_calls.specs.Calls.{bad_buffers}
use Rattle.driver_calls.proofs.Laws.Calls.{few_held, information_short, good_buffers, refused_9, refused_35, not_sent, holds, station_refuses, station_sends}
use Rattle.driver_calls.proofs.sending.timer.Goals as goal
use Rattle.driver_calls.proofs.sending.timer.Goals.{Else-bad_buffers, Else-not-whole}

pub returns-then-bad_buffers : goal.returns-then-bad_buffers
returns-then-bad_buffers c = not_sent (refused_9 (sym c.bad_buffers.ensures ∙ c.if-bad_buffers.true))

good_buffers_at : (c : Else-bad_buffers) → bad_buffers (length c.args.store.now) (length c.args.out.now) ≡ false
good_buffers_at c = sym c.bad_buffers.ensures ∙ c.if-bad_buffers.false

held_at : (c : Else-not-whole) → Held c.args.rec.now c.open-s.new.addresses c.open-s.result.n c.open-s.result
held_at c = opened_held c.open-s.ensures c.whole.ensures (ap not c.if-not-whole.false)

pub whole-requires : goal.whole-requires
whole-requires c = c.open-s.ensures.blank

pub returns-then-not-whole : goal.returns-then-not-whole
returns-then-not-whole c = not_sent (refused_35 (good_buffers_at (goal.at.returns-then-not-whole c).Else-bad_buffers) (none_held c.open-s.ensures c.whole.ensures (ap not c.if-not-whole.true)))

pub decide_call-v-requires : goal.decide_call-v-requires
decide_call-v-requires c = few_held (held_at (goal.at.decide_call-v-requires c).Else-not-whole) _ c.members.ensures

pub returns-then-v-ne0 : goal.returns-then-v-ne0
returns-then-v-ne0 c =
    station_refuses timer_rule decided_timer timer_so (information_of c.args.store.now) (good_buffers_at (goal.at.returns-then-v-ne0 c).Else-bad_buffers) (held_at (goal.at.returns-then-v-ne0 c).Else-not-whole) _ c.decide_call-v.ensures c.if-v-ne0.true

pub settle-requires : goal.settle-requires
settle-requires c =
    (holds (held_at (goal.at.settle-requires c).Else-not-whole), ((good_buffers _ _ (good_buffers_at (goal.at.settle-requires c).Else-bad_buffers)).1, information_short _ _ _ c.information_of.ensures))

pub returns : goal.returns
returns c =
    station_sends timer_rule decided_timer timer_so (information_of c.args.store.now) (good_buffers_at (goal.at.returns c).Else-bad_buffers) (held_at (goal.at.returns c).Else-not-whole) _ c.decide_call-v.ensures c.if-v-ne0.false _ _ _ _ _ c.members-2.ensures
    c.information_of.ensures
    c.settle.ensures.1
