-- A station whose arrays are as long and whose numbers are as small as their types say, as every station that the code holds.
use Rattle.std.specs.Prelude.{◌≡◌, ℕ, ◌<◌, length, get_or, Option, None, Some}
use Rattle.parts.specs.Messages.{blank}
use Rattle.parts.specs.declared.list.Message.{Message}
use Rattle.parts.specs.declared.list.Messages.{Messages}
use Rattle.parts.specs.declared.frame.TokenFrame.{TokenFrame}
use Rattle.parts.specs.declared.frame.TransmitFrame.{TransmitFrame}
use Rattle.parts.specs.declared.frame.InformationFrame.{InformationFrame}
use Rattle.parts.specs.declared.frame.Frame.{Frame}
use Rattle.parts.specs.declared.frame.Frame.TheVariants.{Token, Transmit, Information}
use Rattle.parts.specs.Frames.{Dispatch}
use Rattle.station.specs.declared.station.Turn.{Turn}
use Rattle.station.specs.declared.station.Station.{Station}

-- ---- what a station holds

pub record TypedMessage (m : Message) : Type 0 where
  pub other_u8 : m.other < 256
  pub priority_u8 : m.priority < 256
  pub channel_u8 : m.channel < 256
  pub length_u16 : m.length < 65536
  pub place_u8 : m.place < 256

-- its 16 slots, those behind its messages too
pub record TypedList (l : Messages) : Type 0 where
  pub slots : length l.items ≡ 16
  pub each : (i : ℕ) → TypedMessage (get_or l.items i blank)

abbrev pub TypedWhom : Option ℕ → Type 0
TypedWhom None = Unit {0}
TypedWhom (Some p) = p < 256

pub record TypedToken (t : TokenFrame) : Type 0 where
  pub number_u16 : t.number < 65536
  pub priority_u8 : t.priority < 256
  pub master_u8 : t.master < 256
  pub failing_u8 : TypedWhom t.failing
  pub named_u8 : t.named < 256

pub record TypedTransmit (t : TransmitFrame) : Type 0 where
  pub number_u16 : t.number < 65536
  pub priority_u8 : t.priority < 256
  pub master_u8 : t.master < 256
  pub named_u8 : t.named < 256

pub record TypedInformation (i : InformationFrame) : Type 0 where
  pub number_u16 : i.number < 65536
  pub priority_u8 : i.priority < 256
  pub channel_u8 : i.channel < 256
  pub length_u16 : i.length < 65536
  pub place_u8 : i.place < 256

abbrev pub TypedFrame : Frame → Type 0
TypedFrame (Token t) = TypedToken t
TypedFrame (Transmit t) = TypedTransmit t
TypedFrame (Information i) = TypedInformation i

abbrev pub TypedDispatch : Dispatch → Type 0
TypedDispatch None = Unit {0}
TypedDispatch (Some (frame, to)) = TypedFrame frame × (to < 256)

abbrev pub TypedHandled : Option ℕ → Type 0
TypedHandled None = Unit {0}
TypedHandled (Some k) = k < 65536

pub record TypedTurn (t : Turn) : Type 0 where
  pub awaited : TypedDispatch t.awaited
  pub handled : TypedHandled t.handled
  pub retries_u8 : t.retries < 256

-- ---- a station; its N and R are the ring's

pub record Typed (s : Station) : Type 0 where
  pub own_u8 : s.own < 256
  pub seats : length s.live.on ≡ 64
  pub sends : TypedList s.sends
  pub receives : TypedList s.receives
  pub turn : TypedTurn s.turn
  pub lost_u32 : s.counts.lost < 4294967296
  pub givenup_u32 : s.counts.givenup < 4294967296
