-- `run::begin` meets its contract: a ring of none where the files are refused, and else the ring file's.
use mathlib.Core.Path.{sym, subst, ◌∙◌}
use Prim.Native.Nat.{ℕ, ◌≤◌}
use lib.ListN.{length}
use Rattle.codec.specs.Ring.{member_at}
use Rattle.replay.proofs.Laws.Refusing.{passes_long, passes_members, begins_none, begins_day, begins_closed, begins_open}
use Rattle.replay.proofs.run.begin.Goals as goal

pub returns-then-number-ne0 : goal.returns-then-number-ne0
returns-then-number-ne0 c =
    let k = c.refusal_of-number in
    let a = c.args in
    let f = a.file.now in
    let s = a.capture.now in (
      k.ensures,
      (begins_none f s k.result _ k.ensures c.if-number-ne0.true c.start-replay.ensures.0, (c.start-replay.ensures.1.0, begins_closed f s k.result _ k.ensures c.if-number-ne0.true c.start-replay.ensures.1.1)),
    )

pub count_of-n-requires : goal.count_of-n-requires
count_of-n-requires c =
    let a = c.args in
    let k = c.refusal_of-number in
    passes_long a.file.now a.capture.now k.result k.ensures c.if-number-ne0.false

pub limit_of-limit-requires : goal.limit_of-limit-requires
limit_of-limit-requires c =
    let a = c.args in
    let k = c.refusal_of-number in
    passes_long a.file.now a.capture.now k.result k.ensures c.if-number-ne0.false

pub channels_of-channels-requires : goal.channels_of-channels-requires
channels_of-channels-requires c =
    let a = c.args in
    let k = c.refusal_of-number in
    let n = c.count_of-n.ensures in
    (n, subst (λ (m : ℕ). member_at a.file.now m ≤ length a.file.now) (sym n) (passes_members a.file.now a.capture.now k.result k.ensures c.if-number-ne0.false))

pub returns : goal.returns
returns c =
    let k = c.refusal_of-number in
    let a = c.args in
    let f = a.file.now in
    let s = a.capture.now in (
      k.ensures,
      (
        begins_day f s k.result _ k.ensures _ _ c.if-number-ne0.false c.count_of-n.ensures c.limit_of-limit.ensures c.start-replay-2.ensures.0,
        (c.start-replay-2.ensures.1.0, begins_open f s k.result _ k.ensures c.if-number-ne0.false (c.start-replay-2.ensures.1.1 ∙ c.channels_of-channels.ensures)),
      ),
    )
