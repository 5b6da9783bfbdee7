-- What is sent: starting a round, sending the head, granting, passing a token on.
use Rattle.std.specs.Prelude.{[], ◌∷◌, ℕ, ltb, eqb, Option, None, Some}
use Rattle.std.specs.Option.{option_map_or}
use Rattle.parts.specs.Choose.{pick}
use Rattle.codec.specs.Order.{first_of}
use Rattle.parts.specs.Live.{live_at}
use Rattle.parts.specs.Frames.{next, Dispatch}
use Rattle.parts.specs.declared.list.Message.{Message}
use Rattle.parts.specs.declared.frame.TokenFrame.{TokenFrame}
use Rattle.parts.specs.declared.frame.TransmitFrame.{TransmitFrame}
use Rattle.parts.specs.declared.frame.InformationFrame.{InformationFrame}
use Rattle.parts.specs.declared.frame.Frame.{Frame}
use Rattle.parts.specs.declared.frame.Frame.TheVariants.{Token, Transmit, Information}
use Rattle.sent.specs.declared.round.Sight.{Sight}
use Rattle.sent.specs.declared.round.Bid.{Bid}

-- the head's priority, 0 if there is none
abbrev pub priority_of : Option Message → ℕ
priority_of None = 0
priority_of (Some m) = m.priority

-- ---- the frames that are composed

-- the token of a new round: itself as master, itself named
abbrev pub opening : ℕ → ℕ → ℕ → Option ℕ → TokenFrame
opening own priority number failing = record { number = number; priority = priority; master = own; failing = failing; named = own }

-- the information frame of a message
abbrev pub carrying : ℕ → Message → InformationFrame
carrying number m = record { number = number; priority = m.priority; channel = m.channel; length = m.length; place = m.place }

-- a master's transmit token
abbrev pub granting : ℕ → ℕ → ℕ → ℕ → TransmitFrame
granting number priority master named = record { number = number; priority = priority; master = master; named = named }

-- a token as it goes on, with another number, failing station and bid
abbrev pub passing : ℕ → TokenFrame → Option ℕ → Bid → TokenFrame
passing number t failing b = record { number = number; priority = b.priority; master = t.master; failing = failing; named = b.named }

-- ---- starting, sending, granting

-- "a token to its successor with itself as master, its head's priority (0 if none), itself named"
unfoldable pub start_round : Sight → ℕ → Option ℕ → Dispatch
start_round v number failing = Some (Token (opening v.own (priority_of v.head) number failing), v.next)

-- the information frame of a message, to its other end
abbrev pub information_of : ℕ → Message → Dispatch
information_of number m = Some (Information (carrying number m), m.other)

-- told to send: the head goes; "told to send with no head, it starts a round"
unfoldable pub send_head : Sight → ℕ → Dispatch
send_head v number = option_map_or (information_of number) v.head (start_round v number None)

-- a transmit token to the named station; "told to grant to a struck station, it starts a round"
unfoldable pub grant : Sight → ℕ → ℕ → ℕ → Dispatch
grant v number priority named =
    pick (live_at v.live named)
    (Some (Transmit (granting number priority v.own named), named))
    (start_round v number None)

-- a token naming this station as master: priority 0 starts a round; itself named sends its head; otherwise a transmit token
unfoldable pub returned : Sight → ℕ → ℕ → ℕ → Dispatch
returned v number priority named =
    first_of (grant v number priority named)
    ((eqb priority 0, start_round v number None)
    ∷ (eqb named v.own, send_head v number)
    ∷ [])

-- ---- a token's bid: its priority and its named station

abbrev pub bid_of : TokenFrame → Bid
bid_of t = record { priority = t.priority; named = t.named }

-- this station's own (0 if no head)
abbrev pub own_bid : Sight → Bid
own_bid v = record { priority = priority_of v.head; named = v.own }

-- "if its named station is not live, name and priority first become this station's own"
unfoldable pub cleared : Sight → Bid → Bid
cleared v b = pick (live_at v.live b.named) b (own_bid v)

-- "then, if the head's priority is greater than the token's, priority and name are replaced"
unfoldable pub raised : Sight → Bid → Bid
raised v b = pick (ltb b.priority (priority_of v.head)) (own_bid v) b

-- a token goes on to the successor
abbrev pub forward : Sight → ℕ → TokenFrame → Option ℕ → Bid → Dispatch
forward v number t failing b = Some (Token (passing number t failing b), v.next)

-- other token: if its master is not live, a round starts; else it goes to the successor, failing station kept
unfoldable pub pass_on : Sight → ℕ → TokenFrame → Dispatch
pass_on v number t =
    pick (live_at v.live t.master)
    (forward v number t t.failing (raised v (cleared v (bid_of t))))
    (start_round v number None)

-- a token, with the number of the frame to send
unfoldable pub on_token : Sight → ℕ → TokenFrame → Dispatch
on_token v number t =
    pick (eqb t.master v.own)
    (returned v number t.priority t.named)
    (pass_on v number t)

-- the frame sent on a heard one, with the next number
unfoldable pub reply : Sight → Frame → Dispatch
reply v (Token t) = on_token v (next t.number) t
reply v (Transmit t) = send_head v (next t.number)
reply v (Information i) = start_round v (next i.number) None
