-- "A frame is awaited exactly when Waiting, fit to write and to another member, and a message is in flight exactly when that frame is
-- its information frame", in plain facts.
use Rattle.std.specs.Prelude.{◌≡◌, ℕ, ◌<◌, ◌≤◌, None, Some}
use mathlib.Core.List.{Memᴰ}
use Rattle.parts.specs.Messages.{all}
use Rattle.parts.specs.declared.moves.State.{State}
use Rattle.parts.specs.declared.moves.State.TheVariants.{Waiting}
use Rattle.parts.specs.declared.list.Message.{Message}
use Rattle.parts.specs.declared.list.Messages.{Messages}
use Rattle.parts.specs.declared.frame.TokenFrame.{TokenFrame}
use Rattle.parts.specs.declared.frame.TransmitFrame.{TransmitFrame}
use Rattle.parts.specs.declared.frame.InformationFrame.{InformationFrame}
use Rattle.parts.specs.declared.frame.Frame.{Frame}
use Rattle.parts.specs.declared.frame.Frame.TheVariants.{Token, Transmit, Information}
use Rattle.parts.specs.Frames.{Dispatch}

-- ---- fit to write: members, and fields in range

pub record FitToken (n : ℕ) (t : TokenFrame) : Type 0 where
  pub master_member : t.master < n
  pub named_member : t.named < n
  pub failing_member : (p : ℕ) → t.failing ≡ Some p → p < n

pub record FitTransmit (n : ℕ) (t : TransmitFrame) : Type 0 where
  pub some_priority : t.priority ≡ 0 → ⊥
  pub master_member : t.master < n
  pub named_member : t.named < n

pub record FitInformation (i : InformationFrame) : Type 0 where
  pub some_priority : i.priority ≡ 0 → ⊥
  pub channel_fits : i.channel ≤ 7
  pub length_fits : i.length ≤ 1492

abbrev pub Fit : ℕ → Frame → Type 0
Fit n (Token t) = FitToken n t
Fit n (Transmit t) = FitTransmit n t
Fit n (Information i) = FitInformation i

-- ---- the message of an information frame is in the send list

pub record Carries (l : Messages) (to : ℕ) (i : InformationFrame) : Type 0 where
  pub message : Message
  pub there : Memᴰ message (all l)
  pub same_place : message.place ≡ i.place
  pub same_other : message.other ≡ to
  pub same_priority : message.priority ≡ i.priority
  pub same_channel : message.channel ≡ i.channel
  pub same_length : message.length ≡ i.length

abbrev pub Carrying : Messages → Frame → ℕ → Type 0
Carrying l (Token t) to = Unit {0}
Carrying l (Transmit t) to = Unit {0}
Carrying l (Information i) to = Carries l to i

-- ---- the awaited frame

pub record Proper (n own : ℕ) (l : Messages) (f : Frame) (to : ℕ) : Type 0 where
  pub fits_to_write : Fit n f
  pub member : to < n
  pub another : to ≡ own → ⊥
  pub carries : Carrying l f to

pub record Awaited (st : State) (n own : ℕ) (l : Messages) (d : Dispatch) : Type 0 where
  pub one_when_waiting : st ≡ Waiting → (f : Frame) × (to : ℕ) × (d ≡ Some (f, to))
  pub none_otherwise : (st ≡ Waiting → ⊥) → d ≡ None
  pub each_proper : (f : Frame) (to : ℕ) → d ≡ Some (f, to) → Proper n own l f to
