-- `frame::is_ahead` meets its contract: the tests of the distance decide.
use Rattle.std.proofs.Common.{ℕ, leb, sym, ap, ◌∙◌, le-leb}
use borrow.Author.Tests.{lt-leb}
use Rattle.parts.specs.Frames.{is_ahead}
use Rattle.parts.proofs.Laws.Choose.{pick_true, pick_false}
use Rattle.parts.proofs.frame.is_ahead.Goals as goal

pub returns-then-distance-ge1 : goal.returns-then-distance-ge1
unfolding is_ahead
returns-then-distance-ge1 c =
    ap (λ (d : ℕ). leb d 32767) c.ahead-distance.ensures
    ∙ sym (pick_true _ _ (sym (ap (leb 1) c.ahead-distance.ensures) ∙ le-leb _ _ c.if-distance-ge1.true))

pub returns : goal.returns
unfolding is_ahead
returns c = sym (pick_false _ _ (sym (ap (leb 1) c.ahead-distance.ensures) ∙ lt-leb _ _ c.if-distance-ge1.false))
