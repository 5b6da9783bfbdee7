-- `refusals::queue_refusal` meets its contract: at each return the tests that led there say which is the first that holds.
use Rattle.std.proofs.Common.{le-ltb, lt-ltb, eq-eqb, ne_eqb, le-leb}
use borrow.Author.Tests.{lt-leb}
use Rattle.parts.specs.Refusals.{queue_refusal}
use Rattle.parts.proofs.refusals.queue_refusal.Goals as goal

pub returns-then-q-eq0 : goal.returns-then-q-eq0
unfolding queue_refusal
returns-then-q-eq0 c = rw (eq-eqb _ _ c.if-q-eq0.true)

pub returns-then-q-gt255 : goal.returns-then-q-gt255
unfolding queue_refusal
returns-then-q-gt255 c = rw (ne_eqb _ _ c.if-q-eq0.false, lt-ltb _ _ c.if-q-gt255.true)

pub returns-then-n-q : goal.returns-then-n-q
unfolding queue_refusal
returns-then-n-q c = rw (ne_eqb _ _ c.if-q-eq0.false, le-ltb _ _ c.if-q-gt255.false, le-leb _ _ c.if-n-q.true)

pub returns-then-q-own : goal.returns-then-q-own
unfolding queue_refusal
returns-then-q-own c = rw (ne_eqb _ _ c.if-q-eq0.false, le-ltb _ _ c.if-q-gt255.false, lt-leb _ _ c.if-n-q.false, eq-eqb _ _ c.if-q-own.true)

pub returns-then-not-live : goal.returns-then-not-live
unfolding queue_refusal
returns-then-not-live c = rw (ne_eqb _ _ c.if-q-eq0.false, le-ltb _ _ c.if-q-gt255.false, lt-leb _ _ c.if-n-q.false, ne_eqb _ _ c.if-q-own.false, c.if-not-live.true)

pub returns-then-q-gt7 : goal.returns-then-q-gt7
unfolding queue_refusal
returns-then-q-gt7 c = rw (ne_eqb _ _ c.if-q-eq0.false, le-ltb _ _ c.if-q-gt255.false, lt-leb _ _ c.if-n-q.false, ne_eqb _ _ c.if-q-own.false, c.if-not-live.false, lt-ltb _ _ c.if-q-gt7.true)

pub returns-then-not-q : goal.returns-then-not-q
unfolding queue_refusal
returns-then-not-q c = rw (ne_eqb _ _ c.if-q-eq0.false, le-ltb _ _ c.if-q-gt255.false, lt-leb _ _ c.if-n-q.false, ne_eqb _ _ c.if-q-own.false, c.if-not-live.false, le-ltb _ _ c.if-q-gt7.false, c.if-not-q.true)

pub returns-then-q-gt-INFORMATION : goal.returns-then-q-gt-INFORMATION
unfolding queue_refusal
returns-then-q-gt-INFORMATION c = rw (ne_eqb _ _ c.if-q-eq0.false, le-ltb _ _ c.if-q-gt255.false, lt-leb _ _ c.if-n-q.false, ne_eqb _ _ c.if-q-own.false, c.if-not-live.false, le-ltb _ _ c.if-q-gt7.false, c.if-not-q.false, lt-ltb _ _ c.if-q-gt-INFORMATION.true)

pub returns-then-len-ge16 : goal.returns-then-len-ge16
unfolding queue_refusal
returns-then-len-ge16 c = rw (ne_eqb _ _ c.if-q-eq0.false, le-ltb _ _ c.if-q-gt255.false, lt-leb _ _ c.if-n-q.false, ne_eqb _ _ c.if-q-own.false, c.if-not-live.false, le-ltb _ _ c.if-q-gt7.false, c.if-not-q.false, le-ltb _ _ c.if-q-gt-INFORMATION.false, le-leb _ _ c.if-len-ge16.true)

pub returns : goal.returns
unfolding queue_refusal
returns c = rw (ne_eqb _ _ c.if-q-eq0.false, le-ltb _ _ c.if-q-gt255.false, lt-leb _ _ c.if-n-q.false, ne_eqb _ _ c.if-q-own.false, c.if-not-live.false, le-ltb _ _ c.if-q-gt7.false, c.if-not-q.false, le-ltb _ _ c.if-q-gt-INFORMATION.false, lt-leb _ _ c.if-len-ge16.false)
