-- Sent again, below the retry limit and at it, to an addressee that is live or was struck on hearing.
use Rattle.std.specs.Prelude.{◌≡◌, false, ℕ, ◌+◌, None, Some}
use Rattle.parts.specs.Live.{live_at}
use Rattle.parts.specs.Messages.{none}
use Rattle.parts.specs.Frames.{number_of, failing_of}
use Rattle.station.specs.Stations.{state_of, awaited_of, alone}
use Rattle.station.specs.Strike.{strike}
use Rattle.station.specs.Heard.{acknowledged, checks}
use Rattle.parts.specs.declared.moves.State.TheVariants.{Waiting}
use Rattle.parts.specs.declared.frame.Frame.{Frame}
use Rattle.station.specs.declared.station.Station.{Station}
use Rattle.station.specs.declared.station.Answer.{Answer}

-- a station waits for the acknowledgement of a frame to `to`
pub record Awaits (s : Station) (f : Frame) (to : ℕ) : Type 0 where
  pub waits : state_of s ≡ Waiting
  pub awaits : awaited_of s ≡ Some (f, to)

-- below the limit the same frame goes again, and nothing else happens
pub record SentAgain (s : Station) (f : Frame) (to : ℕ) (a : Answer) : Type 0 where
  pub sent_same : a.sent ≡ Some (f, to)
  pub still_awaits : Awaits a.station f to
  pub one_retry_more : a.station.turn.retries ≡ s.turn.retries + 1
  pub nobody_told : a.struck ≡ None
  pub none_given_up : a.gone ≡ none
  pub live_same : a.station.live ≡ s.live

-- at the limit, where the addressee is not live
pub record NobodyNew (s : Station) (a : Answer) : Type 0 where
  pub nobody_told : a.struck ≡ None
  pub live_same : a.station.live ≡ s.live

-- a frame that is heard by a station that waits: the checks pass, it is no acknowledgement, and its failing station is the addressee, which is
-- not this station and not the last other one
pub record NamesAddressee (s : Station) (g : Frame) (from at to : ℕ) : Type 0 where
  pub passed : checks s from at ≡ 0
  pub no_acknowledgement : acknowledged s from (number_of g) ≡ false
  pub failing_is : failing_of g ≡ Some to
  pub another : to ≡ s.own → ⊥
  pub others_left : alone (strike s to) ≡ false

-- the station still awaits the frame to it
pub record StillAwaits (s : Station) (f : Frame) (to : ℕ) (a : Answer) : Type 0 where
  pub awaits_it : Awaits a.station f to
  pub turn_same : a.station.turn ≡ s.turn
  pub nothing_sent : a.sent ≡ None
  pub struck_now : live_at a.station.live to ≡ false
