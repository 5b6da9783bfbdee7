-- "Take removes the best message of a channel: highest priority, earliest among equals."
use Rattle.std.specs.Prelude.{ℕ, Option, None, Some}
use Rattle.std.specs.Option.{unwrap_or}
use Rattle.parts.specs.Messages.{blank, none, best, split_by}
use Rattle.parts.specs.Refusals.{take_refusal}
use Rattle.station.specs.Stations.{with_receives, moved, unless}
use Rattle.parts.specs.declared.moves.Event.TheVariants.{Take}
use Rattle.parts.specs.declared.list.Message.{Message}
use Rattle.parts.specs.declared.list.Which.TheVariants.{HasPlace, OnChannel}
use Rattle.station.specs.declared.station.Station.{Station}
use Rattle.station.specs.declared.station.Answer.{Answer}

abbrev pub best_on : Station → ℕ → Option Message
best_on s channel = best (OnChannel channel) s.receives

-- the message leaves the receive list and is handed back
unfoldable pub taking : Station → Message → Answer
taking s m =
    record {
      station = with_receives s (split_by (HasPlace m.place) s.receives).kept;
      number = 0;
      sent = None;
      struck = None;
      gone = none;
      payload = Some m;
    }

unfoldable pub take_rule : Station → ℕ → ℕ → Answer
take_rule s channel room =
    moved s Take (unless s (take_refusal channel (best_on s channel) room) (taking s (unwrap_or (best_on s channel) blank)))
