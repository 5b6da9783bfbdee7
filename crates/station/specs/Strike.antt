-- Striking a station, giving messages up, and telling both.
use Rattle.std.specs.Prelude.{ℕ, Option}
use Rattle.std.specs.Option.{option_map_or}
use Rattle.parts.specs.Messages.{none, best, split_by, pushed}
use Rattle.parts.specs.Live.{without}
use Rattle.parts.specs.Frames.{flight}
use Rattle.station.specs.Stations.{with_live, with_sends, quiet, counted, awaited_of}
use Rattle.parts.specs.declared.moves.State.{State}
use Rattle.parts.specs.declared.list.Message.{Message}
use Rattle.parts.specs.declared.list.Messages.{Messages}
use Rattle.parts.specs.declared.list.Which.TheVariants.{WaitingFor, HasPlace}
use Rattle.station.specs.declared.station.Station.{Station}

-- a station and the messages that have left its send list, in order, not counted yet
pub record Loss : Type 0 where
  pub station : Station
  pub gone : Messages

-- a station after a striking: who is newly struck, and the messages given up
pub record Struck : Type 0 where
  pub station : Station
  pub struck : Option ℕ
  pub gone : Messages

-- `p` is struck from the live set
abbrev pub strike : Station → ℕ → Station
strike s p = with_live s (without s.live p)

-- the station before anything is given up
abbrev pub nothing_gone : Station → Loss
nothing_gone s = record { station = s; gone = none }

-- waiting messages to `p` leave, in order of acceptance
unfoldable pub give_up_to : Station → ℕ → Loss
give_up_to s p =
    record {
      station = with_sends s (split_by (WaitingFor (flight (awaited_of s)) p) s.sends).kept;
      gone = (split_by (WaitingFor (flight (awaited_of s)) p) s.sends).gone;
    }

-- the message at a place of the send list, if there is one
abbrev pub message_at : Station → ℕ → Option Message
message_at s p = best (HasPlace p) s.sends

-- the message at a place leaves the send list
abbrev pub leave : Station → ℕ → Station
leave s p = with_sends s (split_by (HasPlace p) s.sends).kept

-- a message at a place is given up, after those that were before
unfoldable pub give_up_at : Loss → ℕ → Loss
give_up_at l p =
    option_map_or (λ (m : Message). record { station = leave l.station p; gone = pushed l.gone m }) (message_at l.station p) l

-- any message in flight is given up
unfoldable pub give_up_flight : Loss → Loss
give_up_flight l = option_map_or (give_up_at l) (flight (awaited_of l.station)) l

-- what was given up is counted, and told with the station newly struck
abbrev pub told : Loss → Option ℕ → Struck
told l w = record { station = counted l.station l.gone.len; struck = w; gone = l.gone }

-- "at Excluded and Alone a message in flight is given up and nothing more happens"
abbrev pub stopped : Loss → Option ℕ → State → Struck
stopped l w st =
    record {
      station = quiet (told (give_up_flight l) w).station st;
      struck = w;
      gone = (told (give_up_flight l) w).gone;
    }
