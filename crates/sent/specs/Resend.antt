-- What is sent after the last timer.
use Rattle.std.specs.Prelude.{not, [], ◌∷◌, ℕ, eqb, Some}
use Rattle.parts.specs.Choose.{pick}
use Rattle.codec.specs.Order.{first_of}
use Rattle.parts.specs.Live.{live_at}
use Rattle.parts.specs.Frames.{next, Dispatch}
use Rattle.sent.specs.Round.{start_round, bid_of, own_bid, forward}
use Rattle.parts.specs.declared.frame.TokenFrame.{TokenFrame}
use Rattle.parts.specs.declared.frame.Frame.{Frame}
use Rattle.parts.specs.declared.frame.Frame.TheVariants.{Token, Transmit, Information}
use Rattle.sent.specs.declared.round.Sight.{Sight}
use Rattle.sent.specs.declared.round.Bid.{Bid}

-- "if the struck station was named, name and priority become this station's own (0 if no head)"
unfoldable pub renamed : Sight → ℕ → Bid → Bid
renamed v to b = pick (eqb b.named to) (own_bid v) b

-- a token passed on for a master still live goes to the new successor; one of its own starts a round
unfoldable pub token_again : Sight → ℕ → ℕ → TokenFrame → Dispatch
token_again v number to t =
    first_of (forward v number t (Some to) (renamed v to (bid_of t)))
    ((eqb t.master v.own, start_round v number (Some to))
    ∷ (not (live_at v.live t.master), start_round v number (Some to))
    ∷ [])

-- "in all other cases a round starts, also with the number after the old frame's. The token sent here names the struck
-- station as failing"
unfoldable pub resend : Sight → ℕ → Frame → Dispatch
resend v to (Token t) = token_again v (next t.number) to t
resend v to (Transmit t) = start_round v (next t.number) (Some to)
resend v to (Information i) = start_round v (next i.number) (Some to)
