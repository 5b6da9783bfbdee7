use Rattle.std.proofs.Common.{◌-◌, ◌≤◌, length, Some, refl, sym, ap, ◌∙◌, arith}
use Rattle.script.proofs.Laws.Session.{obey_short, obey_by, bad_shape, no_ring, too_early, begins, second_ring, queues, steps_on, opens_few}
use Rattle.script.proofs.session.obey.Goals as goal
use Rattle.script.proofs.session.obey.Goals.{in_default-line-via-in-Ring+else-opens, in_default-line-via-in_default-line}

pub returns-then-room_from-lt-ROOM : goal.returns-then-room_from-lt-ROOM
returns-then-room_from-lt-ROOM c =
    let a = c.args in
    obey_short a.session.now a.line a.out.now a.at (omega (arith, c.room_from.ensures, c.if-room_from-lt-ROOM.true))

pub returns-in_default : goal.returns-in_default
returns-in_default c =
    let a = c.args in
    let h : 64 ≤ length a.out.now - a.at = omega (arith, c.room_from.ensures, c.if-room_from-lt-ROOM.false) in
    let r = c.turn_down.ensures in
    obey_by a.session.now a.line a.out.now a.at (bad_shape _ h a.session.now) _ _ _ refl c.in_default.is h r.acted refl r.text

pub begin-requires-clause-few : goal.begin-requires-clause-few
begin-requires-clause-few c = opens_few c.in-Ring.n (sym c.opens.ensures ∙ c.if-opens.true)

pub returns-in-Ring : goal.returns-in-Ring
returns-in-Ring c =
    let a = c.args in
    let h : 64 ≤ length a.out.now - a.at = omega (arith, c.room_from.ensures, c.if-room_from-lt-ROOM.false) in
    let r = c.begin.ensures in
    obey_by a.session.now a.line a.out.now a.at (begins _ h c.in-Ring.n (sym c.opens.ensures ∙ c.if-opens.true)) _ _ _ c.in-None.is
    (c.in-Some.is ∙ ap Some c.in-Ring.is) h r.acted r.session r.text

pub returns-in_default-line : goal.returns-in_default-line
returns-in_default-line c =
    let a = c.args in
    let h : 64 ≤ length a.out.now - a.at = omega (arith, c.room_from.ensures, c.if-room_from-lt-ROOM.false) in
    let r = c.turn_down-in_default-line.ensures in
    elim c.in_default-line.branch [
      | in_default-line-via-in-Ring+else-opens w ↦
          obey_by a.session.now a.line a.out.now a.at (no_ring _ h w.in-Ring.n (sym w.opens.ensures ∙ w.if-opens.false)) _ _ _ c.in-None.is
          (c.in-Some.is ∙ ap Some w.in-Ring.is) h r.acted c.in-None.is r.text
      | in_default-line-via-in_default-line w ↦
          obey_by a.session.now a.line a.out.now a.at (too_early _ h c.in-Some.line w.in_default-line.not-Ring) _ _ _ c.in-None.is c.in-Some.is h r.acted c.in-None.is r.text
    ]

pub returns-in-Queue : goal.returns-in-Queue
returns-in-Queue c =
    let a = c.args in
    let h : 64 ≤ length a.out.now - a.at = omega (arith, c.room_from.ensures, c.if-room_from-lt-ROOM.false) in
    let r = c.send.ensures in
    obey_by a.session.now a.line a.out.now a.at (queues _ h c.in-Some-session.bench c.in-Queue.from c.in-Queue.request) _ _ _ c.in-Some-session.is
    (c.in-Some.is ∙ ap Some c.in-Queue.is) h r.acted (ap Some r.bench) r.text

pub returns-in-Step : goal.returns-in-Step
returns-in-Step c =
    let a = c.args in
    let h : 64 ≤ length a.out.now - a.at = omega (arith, c.room_from.ensures, c.if-room_from-lt-ROOM.false) in
    let r = c.advance.ensures in
    obey_by a.session.now a.line a.out.now a.at (steps_on _ h c.in-Some-session.bench c.in-Step.count) _ _ _ c.in-Some-session.is
    (c.in-Some.is ∙ ap Some c.in-Step.is) h r.acted (ap Some r.bench) r.text

pub returns-in-Ring-line : goal.returns-in-Ring-line
returns-in-Ring-line c =
    let a = c.args in
    let h : 64 ≤ length a.out.now - a.at = omega (arith, c.room_from.ensures, c.if-room_from-lt-ROOM.false) in
    let r = c.turn_down-in-Ring-line.ensures in
    obey_by a.session.now a.line a.out.now a.at (second_ring _ h c.in-Some-session.bench c.in-Ring-line.field-0) _ _ _ c.in-Some-session.is
    (c.in-Some.is ∙ ap Some c.in-Ring-line.is) h r.acted refl r.text
