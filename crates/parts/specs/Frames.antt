-- Frames over ring positions.
use Rattle.std.specs.Prelude.{ℕ, ◌+◌, ◌-◌, ◌%◌, ◌^◌, Bool, true, false, ◌==◌, nat_le, nat_lt, Option, None, Some}
use Rattle.codec.specs.Sizes.{most_information}
use Rattle.parts.specs.Choose.{pick}
use Rattle.parts.specs.declared.frame.TokenFrame.{TokenFrame}
use Rattle.parts.specs.declared.frame.TransmitFrame.{TransmitFrame}
use Rattle.parts.specs.declared.frame.InformationFrame.{InformationFrame}
use Rattle.parts.specs.declared.frame.Frame.{Frame}
use Rattle.parts.specs.declared.frame.Frame.TheVariants.{Token, Transmit, Information}

-- a frame with its addressee, or none
abbrev pub Dispatch : Type 0
Dispatch = Option (Frame × ℕ)

abbrev pub number_of : Frame → ℕ
number_of (Token t) = t.number
number_of (Transmit t) = t.number
number_of (Information i) = i.number

-- "the number after 65,535 is 0"
abbrev pub next : ℕ → ℕ
next k = (k + 1) % 2 ^ 16

-- "a message is in flight exactly when the awaited frame is its information frame": the frame tells its place
abbrev pub flight_in : Frame → Option ℕ
flight_in (Token t) = None
flight_in (Transmit t) = None
flight_in (Information i) = Some i.place

abbrev pub flight : Dispatch → Option ℕ
flight None = None
flight (Some (frame, to)) = flight_in frame

-- a token's failing station
abbrev pub failing_of : Frame → Option ℕ
failing_of (Token t) = t.failing
failing_of (Transmit t) = None
failing_of (Information i) = None

-- ---- fit to write on a ring of n: members, and fields in range

abbrev pub member_or_nobody : ℕ → Option ℕ → Bool
member_or_nobody n None = true
member_or_nobody n (Some p) = nat_lt p n

abbrev pub fit_token : ℕ → TokenFrame → Bool
fit_token n t = pick (nat_le n t.master) false (pick (nat_le n t.named) false (member_or_nobody n t.failing))

abbrev pub fit_transmit : ℕ → TransmitFrame → Bool
fit_transmit n t = pick (t.priority == 0) false (pick (nat_le n t.master) false (nat_lt t.named n))

abbrev pub fit_information : InformationFrame → Bool
fit_information i = pick (i.priority == 0) false (pick (nat_lt 7 i.channel) false (nat_le i.length most_information))

abbrev pub fit : ℕ → Frame → Bool
fit n (Token t) = fit_token n t
fit n (Transmit t) = fit_transmit n t
fit n (Information i) = fit_information i

-- how far the number k lies ahead of j, counted around 65,536
abbrev pub ahead : ℕ → ℕ → ℕ
ahead j k = (k + 2 ^ 16 - j % 2 ^ 16) % 2 ^ 16

-- "1 to 32,767 ahead"
unfoldable pub is_ahead : ℕ → ℕ → Bool
is_ahead j k = pick (nat_le 1 (ahead j k)) (nat_le (ahead j k) 32767) false

-- a frame `from` with the number k acknowledges the awaited one: "any frame from a live station whose number is 1 to 32,767 ahead of the
-- number of the waiting station's own frame", whatever its kind, to whomever, and from whichever station the checks have found live
unfoldable pub acknowledges : Dispatch → ℕ → ℕ → Bool
acknowledges None from k = false
acknowledges (Some (frame, to)) from k = is_ahead (number_of frame) k
