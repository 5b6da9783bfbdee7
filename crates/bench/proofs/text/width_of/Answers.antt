-- `text::width_of` meets its contract: the tests in their order.
use borrow.Author.Tests.{lt-ltb, le-ltb}
use Rattle.bench.specs.Text.{width}
use Rattle.bench.proofs.text.width_of.Goals as goal

pub returns-then-v-lt10 : goal.returns-then-v-lt10
unfolding width
returns-then-v-lt10 c = rw (lt-ltb _ _ c.if-v-lt10.true)

pub returns-then-v-lt100 : goal.returns-then-v-lt100
unfolding width
returns-then-v-lt100 c = rw (le-ltb _ _ c.if-v-lt10.false, lt-ltb _ _ c.if-v-lt100.true)

pub returns-then-v-lt1000 : goal.returns-then-v-lt1000
unfolding width
returns-then-v-lt1000 c = rw (le-ltb _ _ c.if-v-lt10.false, le-ltb _ _ c.if-v-lt100.false, lt-ltb _ _ c.if-v-lt1000.true)

pub returns-then-v-lt10000 : goal.returns-then-v-lt10000
unfolding width
returns-then-v-lt10000 c = rw (le-ltb _ _ c.if-v-lt10.false, le-ltb _ _ c.if-v-lt100.false, le-ltb _ _ c.if-v-lt1000.false, lt-ltb _ _ c.if-v-lt10000.true)

pub returns : goal.returns
unfolding width
returns c = rw (le-ltb _ _ c.if-v-lt10.false, le-ltb _ _ c.if-v-lt100.false, le-ltb _ _ c.if-v-lt1000.false, le-ltb _ _ c.if-v-lt10000.false)
