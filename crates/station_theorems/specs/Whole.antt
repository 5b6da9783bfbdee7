-- "A record is whole if ...", in plain facts.
use Rattle.std.specs.Prelude.{◌≡◌, true, ℕ, ◌<◌, ◌≤◌, Some}
use mathlib.Core.List.{Memᴰ}
use Rattle.parts.specs.Messages.{all}
use Rattle.parts.specs.Live.{live_at}
use Rattle.station.specs.Stations.{state_of, awaited_of}
use Rattle.parts.specs.declared.moves.State.TheVariants.{Excluded}
use Rattle.parts.specs.declared.list.Message.{Message}
use Rattle.parts.specs.declared.frame.InformationFrame.{InformationFrame}
use Rattle.parts.specs.declared.frame.Frame.TheVariants.{Information}
use Rattle.parts.specs.Frames.{Dispatch}
use Rattle.station.specs.declared.station.Station.{Station}
use Rattle.station_theorems.specs.LiveSet.{LiveSet}
use Rattle.station_theorems.specs.GoodList.{GoodList}
use Rattle.station_theorems.specs.Awaited.{Awaited}

-- "Its ring is good": N is 2 to 64, R is 1 to 15, this station is a member
pub record Ring (n limit own : ℕ) : Type 0 where
  pub some_members : 2 ≤ n
  pub most_members : n ≤ 64
  pub some_retry : 1 ≤ limit
  pub most_retries : limit ≤ 15
  pub member : own < n

-- the awaited frame is the information frame of the message's place
pub record InFlight (d : Dispatch) (m : Message) : Type 0 where
  pub frame : InformationFrame
  pub to : ℕ
  pub its_place : frame.place ≡ m.place
  pub awaited : d ≡ Some (Information frame, to)

-- all of it
pub record Whole (s : Station) : Type 0 where
  pub good_ring : Ring s.n s.limit s.own
  pub live_set : LiveSet (state_of s) s.n s.own s.live
  pub sends : GoodList s.n s.own s.sends
  pub receives : GoodList s.n s.own s.receives
  pub waiting_to_live : (state_of s ≡ Excluded → ⊥) → (m : Message) → Memᴰ m (all s.sends) → (InFlight (awaited_of s) m → ⊥)
      → live_at s.live m.other ≡ true
  pub retries_fit : s.turn.retries ≤ s.limit
  pub awaited : Awaited (state_of s) s.n s.own s.sends (awaited_of s)
