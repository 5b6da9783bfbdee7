-- Numbers within their types' ranges where wholeness says nothing of them: frame numbers, priorities, counts.
use Rattle.std.specs.Prelude.{◌≡◌, Bool, true, ℕ, ◌<◌, ltb, length, Option, None, Some}
use Rattle.parts.specs.Choose.{every}
use Rattle.parts.specs.Messages.{all}
use Rattle.parts.specs.Frames.{number_of, Dispatch}
use Rattle.station.specs.Stations.{awaited_of}
use Rattle.parts.specs.declared.list.Message.{Message}
use Rattle.parts.specs.declared.list.Messages.{Messages}
use Rattle.parts.specs.declared.frame.Frame.{Frame}
use Rattle.parts.specs.declared.frame.Frame.TheVariants.{Token, Transmit, Information}
use Rattle.station.specs.declared.station.Station.{Station}

-- ---- what a station holds

abbrev pub small_message : Message → Bool
small_message m = ltb m.priority 256

abbrev pub frame_priority : Frame → ℕ
frame_priority (Token t) = t.priority
frame_priority (Transmit t) = t.priority
frame_priority (Information i) = i.priority

pub record SmallFrame (f : Frame) : Type 0 where
  pub number : number_of f < 65536
  pub priority : frame_priority f < 256

abbrev pub SmallDispatch : Dispatch → Type 0
SmallDispatch None = Unit {0}
SmallDispatch (Some (frame, to)) = SmallFrame frame

abbrev pub SmallHandled : Option ℕ → Type 0
SmallHandled None = Unit {0}
SmallHandled (Some k) = k < 65536

-- 16 slots, and the messages in them
pub record SmallList (l : Messages) : Type 0 where
  pub slots : length l.items ≡ 16
  pub messages : every small_message (all l) ≡ true

-- ---- a station of a ring of n with the retry limit `limit`
pub record Small (n limit : ℕ) (s : Station) : Type 0 where
  pub n_is : s.n ≡ n
  pub limit_is : s.limit ≡ limit
  pub sends : SmallList s.sends
  pub receives : SmallList s.receives
  pub awaited : SmallDispatch (awaited_of s)
  pub handled : SmallHandled s.turn.handled
  pub lost : s.counts.lost < 4294967296
  pub givenup : s.counts.givenup < 4294967296
