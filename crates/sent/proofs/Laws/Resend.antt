-- Laws of a token that goes in place of a token: which test is the first that holds. Assumes nothing.
use mathlib.Core.Path.{◌≡◌}
use mathlib.Core.Bool.{true, false, not}
use Prim.Native.Nat.{ℕ}
use borrow.Author.Tests.{eq-eqb, ne_eqb}
use Rattle.parts.specs.Live.{live_at}
use Rattle.sent.specs.Round.{start_round, bid_of, forward}
use Rattle.sent.specs.Resend.{renamed, token_again}
use Rattle.std.specs.Prelude.{Some}
use Rattle.parts.specs.declared.frame.TokenFrame.{TokenFrame}
use Rattle.sent.specs.declared.round.Sight.{Sight}
use Rattle.sent.specs.declared.round.Bid.{Bid}

pub again_own : (v : Sight) (number to : ℕ) (t : TokenFrame) → t.master ≡ v.own → start_round v number (Some to) ≡ token_again v number to t
unfolding token_again
again_own v number to t h = rw (eq-eqb _ _ h)

pub again_struck : (v : Sight) (number to : ℕ) (t : TokenFrame) → (t.master ≡ v.own → ⊥) → not (live_at v.live t.master) ≡ true
    → start_round v number (Some to) ≡ token_again v number to t
unfolding token_again
again_struck v number to t h i = rw (ne_eqb _ _ h, i)

pub again_passed : (v : Sight) (number to : ℕ) (t : TokenFrame) (b : Bid) → (t.master ≡ v.own → ⊥) → not (live_at v.live t.master) ≡ false
    → b ≡ renamed v to (bid_of t) → forward v number t (Some to) b ≡ token_again v number to t
unfolding token_again
again_passed v number to t b h i e = rw (ne_eqb _ _ h, i, e)
