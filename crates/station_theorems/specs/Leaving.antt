-- A message leaves the send list only acknowledged or told as given up; a queued one joins it.
use Rattle.std.specs.Prelude.{◌≡◌, true, false, ◌⊎◌, ℕ, ◌≤◌, length}
use mathlib.Core.List.{[], ◌∷◌, ◌++◌, Memᴰ}
use Rattle.parts.specs.Moves.{move_of, runs}
use Rattle.parts.specs.Messages.{all, none, has_place}
use Rattle.parts.specs.Frames.{number_of}
use Rattle.station.specs.Stations.{state_of}
use Rattle.station.specs.Heard.{acknowledged, checks}
use Rattle.wholeness.specs.Whole.{apart}
use Rattle.parts.specs.declared.moves.Event.TheVariants.{Heard}
use Rattle.parts.specs.declared.list.Message.{Message}
use Rattle.parts.specs.declared.frame.Frame.{Frame}
use Rattle.station.specs.declared.station.Station.{Station}
use Rattle.station.specs.declared.station.Answer.{Answer}
use Rattle.station_theorems.specs.Leaves.{flying}

-- a send list that fits: an array of 16, at most 16 messages, each with its own place
pub record SendsFit (s : Station) : Type 0 where
  pub array : length s.sends.items ≡ 16
  pub most : s.sends.len ≤ 16
  pub places : apart [] (all s.sends) ≡ true

-- `acked` says when the message in flight, the one that flies, leaves by an acknowledgement
pub record LeaveOnly (s : Station) (a : Answer) (acked : Type 0) : Type 0 where
  -- each message stays, or is told as given up, or is the one in flight and acknowledged
  pub stays_or_told : (m : Message) → Memᴰ m (all s.sends)
      → Memᴰ m (all a.station.sends) ⊎ (Memᴰ m (all a.gone) ⊎ (acked × (flying s m ≡ true)))
  -- what is told stood in the list, stands in it no longer, and its place is free
  pub told_stood : (m : Message) → Memᴰ m (all a.gone) → Memᴰ m (all s.sends)
  pub told_left : (m : Message) → Memᴰ m (all a.gone) → Memᴰ m (all a.station.sends) → ⊥
  pub told_place_free : (m : Message) → Memᴰ m (all a.gone) → has_place (all a.station.sends) m.place ≡ false

-- the frame is heard, passes the checks and acknowledges the station
pub record Acknowledged (s : Station) (f : Frame) (from to : ℕ) : Type 0 where
  pub hears : move_of (state_of s) Heard ≡ runs
  pub passed : checks s from to ≡ 0
  pub answers : acknowledged s from (number_of f) ≡ true

-- a call that keeps the send list and tells no message
pub record KeepsSends (s : Station) (a : Answer) : Type 0 where
  pub sends_same : a.station.sends ≡ s.sends
  pub none_told : a.gone ≡ none

-- from s to an answer m joins at the end
pub record Joins (s : Station) (m : Message) (a : Answer) : Type 0 where
  pub joined : all a.station.sends ≡ all s.sends ++ m ∷ []
  pub none_told : all a.gone ≡ []
