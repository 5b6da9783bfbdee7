-- Laws of a number that lies ahead of another around 65,536. Assumes nothing.
use Rattle.std.proofs.Common.{◌≡◌, ℕ, ◌<◌, ◌≤◌, true, false, ◌∙◌, arith, le-leb}
use borrow.Author.Tests.{lt-leb}
use Rattle.parts.specs.Frames.{next, ahead, is_ahead}
use Rattle.parts.proofs.Laws.Choose.{pick_true, pick_false}
use Rattle.parts.proofs.Laws.Tests.{both}

module _ (j k : ℕ) where
  pub near : 1 ≤ ahead j k → ahead j k ≤ 32767 → is_ahead j k ≡ true
  unfolding is_ahead
  near a b = both (le-leb 1 (ahead j k) a) (le-leb (ahead j k) 32767 b)

  pub far : 32767 < ahead j k → is_ahead j k ≡ false
  unfolding is_ahead
  far a = pick_true _ _ (le-leb 1 (ahead j k) (omega arith)) ∙ lt-leb (ahead j k) 32767 a

  pub equal : ahead j k < 1 → is_ahead j k ≡ false
  unfolding is_ahead
  equal a = pick_false _ _ (lt-leb 1 (ahead j k) a)

  -- the number after its own
  pub next_ahead : next j ≡ k → is_ahead j k ≡ true
  next_ahead e = near (omega arith) (omega arith)

  -- the number before its own
  pub before_not_ahead : next k ≡ j → is_ahead j k ≡ false
  before_not_ahead e = far (omega arith)

-- and the one after that
pub after_next_ahead : (j i k : ℕ) → next j ≡ i → next i ≡ k → is_ahead j k ≡ true
after_next_ahead j i k e f = near j k (omega arith) (omega arith)

-- its own
pub same_not_ahead : (k : ℕ) → is_ahead k k ≡ false
same_not_ahead k = equal k k (omega arith)
