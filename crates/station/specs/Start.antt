-- "Start. Station 0 starts a round with frame number 0 and waits. Others become Idle."
use Rattle.std.specs.Prelude.{eqb, None}
use Rattle.parts.specs.Choose.{pick}
use Rattle.station.specs.Stations.{answered, moved, quiet, sending}
use Rattle.station.specs.Sight.{sight}
use Rattle.sent.specs.Round.{start_round}
use Rattle.parts.specs.declared.moves.State.TheVariants.{Idle}
use Rattle.parts.specs.declared.moves.Event.TheVariants.{Start}
use Rattle.parts.specs.Frames.{Dispatch}
use Rattle.station.specs.declared.station.Station.{Station}
use Rattle.station.specs.declared.station.Answer.{Answer}
use Rattle.parts.specs.Messages.{none}

-- a frame is sent and nobody is told
abbrev pub sent_first : Station → Dispatch → Answer
sent_first s d =
    record { station = sending s s.turn.handled d; number = 0; sent = d; struck = None; gone = none; payload = None }

unfoldable pub started : Station → Answer
started s = pick (eqb s.own 0) (sent_first s (start_round (sight s) 0 None)) (answered (quiet s Idle) 0)

unfoldable pub start_rule : Station → Answer
start_rule s = moved s Start (started s)
