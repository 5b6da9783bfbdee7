-- `slip::same_slip` meets its contract: at each return the tests that led there say which is the first that fails.
use mathlib.Core.Path.{sym, ◌∙◌}
use borrow.Author.Tests.{eq-eqb, ne_eqb}
use Rattle.parts.specs.Choose.{pick, all_of}
use Rattle.parts.proofs.Laws.Tests.{holds, last}
use Rattle.records.specs.Fields.{same_slip}
use Rattle.records.proofs.slip.same_slip.Goals as goal

pub returns-then-p-q : goal.returns-then-p-q
unfolding same_slip all_of pick
returns-then-p-q c = simp (ne_eqb _ _ c.if-p-q.true)

pub returns-then-p-q-2 : goal.returns-then-p-q-2
unfolding same_slip all_of pick
returns-then-p-q-2 c = simp (eq-eqb _ _ c.if-p-q.false, ne_eqb _ _ c.if-p-q-2.true)

pub returns-then-p-q-3 : goal.returns-then-p-q-3
unfolding same_slip all_of pick
returns-then-p-q-3 c = simp (eq-eqb _ _ c.if-p-q.false, eq-eqb _ _ c.if-p-q-2.false, ne_eqb _ _ c.if-p-q-3.true)

pub returns-then-p-q-4 : goal.returns-then-p-q-4
unfolding same_slip all_of pick
returns-then-p-q-4 c = simp (eq-eqb _ _ c.if-p-q.false, eq-eqb _ _ c.if-p-q-2.false, eq-eqb _ _ c.if-p-q-3.false, ne_eqb _ _ c.if-p-q-4.true)

pub returns-then-p-q-5 : goal.returns-then-p-q-5
unfolding same_slip all_of pick
returns-then-p-q-5 c = simp (eq-eqb _ _ c.if-p-q.false, eq-eqb _ _ c.if-p-q-2.false, eq-eqb _ _ c.if-p-q-3.false, eq-eqb _ _ c.if-p-q-4.false, ne_eqb _ _ c.if-p-q-5.true)

pub returns-then-p-q-6 : goal.returns-then-p-q-6
unfolding same_slip all_of pick
returns-then-p-q-6 c = simp (eq-eqb _ _ c.if-p-q.false, eq-eqb _ _ c.if-p-q-2.false, eq-eqb _ _ c.if-p-q-3.false, eq-eqb _ _ c.if-p-q-4.false, eq-eqb _ _ c.if-p-q-5.false, ne_eqb _ _ c.if-p-q-6.true)

pub returns-then-p-q-7 : goal.returns-then-p-q-7
unfolding same_slip all_of pick
returns-then-p-q-7 c = simp (eq-eqb _ _ c.if-p-q.false, eq-eqb _ _ c.if-p-q-2.false, eq-eqb _ _ c.if-p-q-3.false, eq-eqb _ _ c.if-p-q-4.false, eq-eqb _ _ c.if-p-q-5.false, eq-eqb _ _ c.if-p-q-6.false, ne_eqb _ _ c.if-p-q-7.true)

pub returns-then-p-q-8 : goal.returns-then-p-q-8
unfolding same_slip all_of pick
returns-then-p-q-8 c = simp (eq-eqb _ _ c.if-p-q.false, eq-eqb _ _ c.if-p-q-2.false, eq-eqb _ _ c.if-p-q-3.false, eq-eqb _ _ c.if-p-q-4.false, eq-eqb _ _ c.if-p-q-5.false, eq-eqb _ _ c.if-p-q-6.false, eq-eqb _ _ c.if-p-q-7.false, ne_eqb _ _ c.if-p-q-8.true)

pub returns-then-p-q-9 : goal.returns-then-p-q-9
unfolding same_slip all_of pick
returns-then-p-q-9 c = simp (eq-eqb _ _ c.if-p-q.false, eq-eqb _ _ c.if-p-q-2.false, eq-eqb _ _ c.if-p-q-3.false, eq-eqb _ _ c.if-p-q-4.false, eq-eqb _ _ c.if-p-q-5.false, eq-eqb _ _ c.if-p-q-6.false, eq-eqb _ _ c.if-p-q-7.false, eq-eqb _ _ c.if-p-q-8.false, ne_eqb _ _ c.if-p-q-9.true)

pub returns : goal.returns
unfolding same_slip
returns c = sym (holds _ (eq-eqb _ _ c.if-p-q.false) ∙ (holds _ (eq-eqb _ _ c.if-p-q-2.false) ∙ (holds _ (eq-eqb _ _ c.if-p-q-3.false) ∙ (holds _ (eq-eqb _ _ c.if-p-q-4.false) ∙ (holds _ (eq-eqb _ _ c.if-p-q-5.false) ∙ (holds _ (eq-eqb _ _ c.if-p-q-6.false) ∙ (holds _ (eq-eqb _ _ c.if-p-q-7.false) ∙ (holds _ (eq-eqb _ _ c.if-p-q-8.false) ∙ (holds _ (eq-eqb _ _ c.if-p-q-9.false) ∙ (last _))))))))))
