-- `whole::ring_good` meets its contract: at each return the tests that led there say which is the first that fails.
use borrow.Author.Tests.{lt-ltb, le-ltb, le-leb, lt-leb}
use Rattle.parts.specs.Choose.{pick, all_of}
use Rattle.wholeness.specs.Whole.{ring_good}
use Rattle.wholeness.proofs.whole.ring_good.Goals as goal

pub returns-then-n-lt2 : goal.returns-then-n-lt2
unfolding ring_good all_of pick
returns-then-n-lt2 c = simp (lt-leb _ _ c.if-n-lt2.true)

pub returns-then-n-gt64 : goal.returns-then-n-gt64
unfolding ring_good all_of pick
returns-then-n-gt64 c = simp (le-leb _ _ c.if-n-lt2.false, lt-leb _ _ c.if-n-gt64.true)

pub returns-then-limit-lt1 : goal.returns-then-limit-lt1
unfolding ring_good all_of pick
returns-then-limit-lt1 c = simp (le-leb _ _ c.if-n-lt2.false, le-leb _ _ c.if-n-gt64.false, lt-leb _ _ c.if-limit-lt1.true)

pub returns-then-limit-gt15 : goal.returns-then-limit-gt15
unfolding ring_good all_of pick
returns-then-limit-gt15 c = simp (le-leb _ _ c.if-n-lt2.false, le-leb _ _ c.if-n-gt64.false, le-leb _ _ c.if-limit-lt1.false, lt-leb _ _ c.if-limit-gt15.true)

pub returns-then-n-own : goal.returns-then-n-own
unfolding ring_good all_of pick
returns-then-n-own c = simp (le-leb _ _ c.if-n-lt2.false, le-leb _ _ c.if-n-gt64.false, le-leb _ _ c.if-limit-lt1.false, le-leb _ _ c.if-limit-gt15.false, le-ltb _ _ c.if-n-own.true)

pub returns : goal.returns
unfolding ring_good all_of pick
returns c = simp (le-leb _ _ c.if-n-lt2.false, le-leb _ _ c.if-n-gt64.false, le-leb _ _ c.if-limit-lt1.false, le-leb _ _ c.if-limit-gt15.false, lt-ltb _ _ c.if-n-own.false)
