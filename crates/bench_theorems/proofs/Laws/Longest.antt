-- Laws of how far the last handled number may lie behind: it grows by one with each frame, and starts anew at who handles one.
-- Assumes nothing.
use mathlib.Core.Path.{◌≡◌, refl, ap, ◌∙◌}
use mathlib.Core.Bool.{Bool, true, false}
use Prim.Native.Nat.{ℕ, ◌+◌, ◌<◌, ◌≤◌}
use native.Mathlib.Omega.{arith}
use lib.Dec.{leb}
use borrow.Author.Tests.{le-leb, lt-leb, leb-true, leb-false}
use Rattle.parts.specs.Live.{after}
use Rattle.parts.specs.Frames.{fit}
use Rattle.sent.specs.Round.{opening, passing}
use Rattle.std.specs.Prelude.{Option}
use Rattle.parts.specs.declared.frame.TokenFrame.{TokenFrame}
use Rattle.parts.specs.declared.frame.TransmitFrame.{TransmitFrame}
use Rattle.parts.specs.declared.frame.InformationFrame.{InformationFrame}
use Rattle.parts.specs.declared.frame.Frame.{Frame}
use Rattle.parts.specs.declared.frame.Frame.TheVariants.{Token, Transmit, Information}
use Rattle.sent.specs.declared.round.Bid.{Bid}
use Rattle.parts.proofs.Laws.Choose.{pick_true, pick_false}
use Rattle.station_theorems.proofs.Laws.Sending.{passes}
use Rattle.bench_theorems.specs.Quiet.{offset, longest}
use Rattle.bench_theorems.proofs.Laws.Offset.{offset_below, offset_own, offset_more, offset_last, offset_same}

pub longest_transmit : (n from : ℕ) (t : TransmitFrame) (q : ℕ) → longest n from (Transmit t) q ≡ n + 1
unfolding longest
longest_transmit n from t q = refl

pub longest_information : (n from : ℕ) (i : InformationFrame) (q : ℕ) → longest n from (Information i) q ≡ n + 2
unfolding longest
longest_information n from i q = refl

module _ (n from : ℕ) (t : TokenFrame) (q : ℕ) where
  abbrev m : ℕ
  m = t.master

  pub longest_asked : offset n m q ≤ offset n m from → longest n from (Token t) q ≡ offset n m from + 1
  unfolding longest
  longest_asked h = pick_true _ _ (le-leb _ _ h)

  pub longest_unasked : offset n m from < offset n m q → longest n from (Token t) q ≡ n + 3 + offset n m from
  unfolding longest
  longest_unasked h = pick_false _ _ (lt-leb _ _ h)

  -- never more than twice around and a little
  pub longest_token : m < n → longest n from (Token t) q ≤ n + n + 2
  longest_token master = go (leb (offset n m q) (offset n m from)) refl (offset_below n m master from)
    where
      go : (b : Bool) → leb (offset n m q) (offset n m from) ≡ b → offset n m from < n → longest n from (Token t) q ≤ n + n + 2
      go true e h = omega (arith, longest_asked (leb-true _ _ e))
      go false e h = omega (arith, longest_unasked (leb-false _ _ e))

  -- a token that comes back to its master has asked all
  pub longest_back : m < n → from < n → after n from ≡ m → longest n from (Token t) q ≡ n
  longest_back master h e =
      let l : offset n m from + 1 ≡ n = offset_last n m master from h e in
      longest_asked (omega (arith, offset_below n m master q)) ∙ l

pub longest_below : (n from : ℕ) (f : Frame) (q : ℕ) → 2 ≤ n → fit n f ≡ true → longest n from f q ≤ n + n + 2
longest_below n from (Token t) q two e = longest_token n from t q (leb-false n t.master (passes e).0)
longest_below n from (Transmit t) q two e = omega (arith, longest_transmit n from t q)
longest_below n from (Information i) q two e = omega (arith, longest_information n from i q)

-- who has just sent the frame
pub longest_here : (n p : ℕ) (f : Frame) → 1 ≤ longest n p f p
longest_here n p (Token t) = omega (arith, longest_asked n p t p (omega arith))
longest_here n p (Transmit t) = omega (arith, longest_transmit n p t p)
longest_here n p (Information i) = omega (arith, longest_information n p i p)

-- a new round
pub longest_round : (n p priority number : ℕ) (w : Option ℕ) (q : ℕ) → p < n → q < n → (q ≡ p → ⊥) → longest n p (Token (opening p priority number w)) q ≡ n + 3
longest_round n p priority number w q h i o =
    let z : offset n p p ≡ 0 = offset_own n p h in
    let some : offset n p q ≡ offset n p p → ⊥ = λ e. o (offset_same n p h q p i h e) in
    let r : longest n p (Token (opening p priority number w)) q ≡ n + 3 + offset n p p = longest_unasked n p (opening p priority number w) q (omega (arith, some)) in
    omega arith

-- a token passed on
module _ (n from p q : ℕ) (t : TokenFrame) (number : ℕ) (w : Option ℕ) (b : Bid) where
  abbrev on : TokenFrame
  on = passing number t w b

  abbrev its : ℕ
  its = t.master

  pub longest_on : its < n → from < n → p < n → q < n → p ≡ after n from → (p ≡ its → ⊥) → (q ≡ p → ⊥)
      → longest n from (Token t) q + 1 ≤ longest n p (Token on) q
  longest_on master h i j e back o = go (leb (offset n its q) (offset n its from)) refl
    where
      more : offset n its p ≡ offset n its from + 1
      more = ap (offset n its) e ∙ offset_more n its master from h (λ x. back (e ∙ x))

      other : offset n its q ≡ offset n its p → ⊥
      other x = o (offset_same n its master q p j i x)

      go : (c : Bool) → leb (offset n its q) (offset n its from) ≡ c → longest n from (Token t) q + 1 ≤ longest n p (Token on) q
      go true x =
          let a : offset n its q ≤ offset n its from = leb-true _ _ x in
          omega (arith, more, longest_asked n from t q a, longest_asked n p on q (omega (arith, more)))
      go false x =
          let a : offset n its from < offset n its q = leb-false _ _ x in
          omega (arith, more, longest_unasked n from t q a, longest_unasked n p on q (omega (arith, more, other)))
