-- `whole::seat_good` meets its contract: past the ring, this station, another.
use borrow.Author.Tests.{le-leb, lt-leb, eq-eqb, ne_eqb}
use Rattle.parts.specs.Choose.{pick}
use Rattle.wholeness.specs.Whole.{seat_good}
use Rattle.wholeness.proofs.whole.seat_good.Goals as goal

pub returns-then-n-p : goal.returns-then-n-p
unfolding seat_good pick
returns-then-n-p c = simp (le-leb _ _ c.if-n-p.true)

pub returns-then-p-own : goal.returns-then-p-own
unfolding seat_good pick
returns-then-p-own c = simp (lt-leb _ _ c.if-n-p.false, eq-eqb _ _ c.if-p-own.true) c.own_seat.ensures

pub returns : goal.returns
unfolding seat_good pick
returns c = simp (lt-leb _ _ c.if-n-p.false, ne_eqb _ _ c.if-p-own.false) c.other_seat.ensures
