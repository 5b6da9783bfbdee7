-- `delivery::reply_at` meets its contract: one test.
use mathlib.Core.Path.{sym}
use borrow.Author.Tests.{eq-eqb, ne_eqb}
use Rattle.parts.proofs.Laws.Choose.{pick_true, pick_false}
use Rattle.bench.proofs.delivery.reply_at.Goals as goal

pub returns-then-p-to : goal.returns-then-p-to
returns-then-p-to c = sym (pick_true _ _ (eq-eqb _ _ c.if-p-to.true))

pub returns : goal.returns
returns c = sym (pick_false _ _ (ne_eqb _ _ c.if-p-to.false))
