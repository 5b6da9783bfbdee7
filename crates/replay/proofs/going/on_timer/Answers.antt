-- `going::on_timer` meets its contract: a stop, or whom the station struck and its frame.
use mathlib.Core.Path.{sym, ap, ◌∙◌}
use mathlib.Core.List.{List}
use Prim.Native.Nat.{ℕ}
use borrow.Author.Tests.{eq-eqb, ne_eqb}
use Rattle.parts.proofs.Laws.Choose.{pick_true, pick_false}
use Rattle.codec.specs.Octets.{laid}
use Rattle.replay.specs.Table.{way_of}
use Rattle.replay.proofs.Laws.Turns.{timer_on}
use Rattle.replay.proofs.going.on_timer.Goals as goal

pub returns-then-a-ne0 : goal.returns-then-a-ne0
returns-then-a-ne0 c =
    let a = c.args in let s = c.stop in (s.ensures.0 ∙ sym (pick_false _ _ (ne_eqb a.a.number 0 c.if-a-ne0.true)), s.ensures.1 ∙ ap (λ (x : List ℕ). laid a.out.now a.g.used x) (sym (pick_false _ _ (ne_eqb a.a.number 0 c.if-a-ne0.true))))

pub returns : goal.returns
returns c =
    let a = c.args in let p = c.put_called-used in (timer_on (way_of a.g) _ a.next a.p a.a _ _ c.if-a-ne0.false c.go_on.ensures c.join-wire.ensures p.ensures.1, p.ensures.0 ∙ ap (λ (x : List ℕ). laid a.out.now a.g.used x) (sym (pick_true _ _ (eq-eqb a.a.number 0 c.if-a-ne0.false))))
