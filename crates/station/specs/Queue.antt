-- "Queue. Accepted messages join the send list."
use Rattle.std.specs.Prelude.{ℕ, None, Some}
use Rattle.parts.specs.Messages.{none, all, pushed, lowest_free, message_for}
use Rattle.parts.specs.Live.{live_at}
use Rattle.parts.specs.Refusals.{queue_refusal}
use Rattle.station.specs.Stations.{with_sends, moved, unless}
use Rattle.parts.specs.declared.moves.Event.TheVariants.{Queue}
use Rattle.parts.specs.declared.list.Message.{Message}
use Rattle.parts.specs.declared.request.Request.{Request}
use Rattle.station.specs.declared.station.Station.{Station}
use Rattle.station.specs.declared.station.Answer.{Answer}

-- the message goes to the end of the send list, its payload into the lowest free place
abbrev pub new_message : Station → Request → Message
new_message s q = message_for q (lowest_free (all s.sends))

abbrev pub joining : Station → Message → Answer
joining s m =
    record
    { station = with_sends s (pushed s.sends m); number = 0; sent = None; struck = None; gone = none; payload = Some m }

unfoldable pub accepted : Station → Request → Answer
accepted s q = joining s (new_message s q)

abbrev pub queue_number : Station → Request → ℕ
queue_number s q = queue_refusal s.n s.own (live_at s.live q.to) s.sends.len q

unfoldable pub queue_rule : Station → Request → Answer
queue_rule s q = moved s Queue (unless s (queue_number s q) (accepted s q))
