-- `turn::handled_good` meets its contract.
use mathlib.Core.Path.{◌≡◌}
use mathlib.Core.Bool.{false}
use Prim.Native.Nat.{ℕ}
use lib.Dec.{eqb}
use borrow.Author.Tests.{eq-eqb, ne_eqb}
use Rattle.parts.specs.Choose.{pick}
use Rattle.std.specs.Prelude.{Option}
use Rattle.records.specs.Fields.{handled_flag, handled_number, handled_from, handled_good}
use Rattle.records.proofs.turn.handled_good.Goals as goal

-- the two tests, one after the other
good_is : (h : Option ℕ) (flag k f n : ℕ) → h ≡ handled_from flag k → f ≡ handled_flag h → n ≡ handled_number h → f ≡ flag → eqb n k ≡ handled_good flag k
unfolding pick
good_is h flag k f n eh ef en e = rw (← eh, ← ef, ← en, eq-eqb f flag e)

bad_is : (h : Option ℕ) (flag k f : ℕ) → h ≡ handled_from flag k → f ≡ handled_flag h → (f ≡ flag → ⊥) → false ≡ handled_good flag k
unfolding pick
bad_is h flag k f eh ef n = rw (← eh, ← ef, ne_eqb f flag n)

pub returns-then-handled_flag-flag : goal.returns-then-handled_flag-flag
returns-then-handled_flag-flag c = good_is c.handled_from-h.result c.args.flag c.args.k c.handled_flag.result c.handled_number.result c.handled_from-h.ensures c.handled_flag.ensures c.handled_number.ensures c.if-handled_flag-flag.true

pub returns : goal.returns
returns c = bad_is c.handled_from-h.result c.args.flag c.args.k c.handled_flag.result c.handled_from-h.ensures c.handled_flag.ensures c.if-handled_flag-flag.false
