-- What a station looks at when it composes a frame.
use Rattle.parts.specs.Live.{successor}
use Rattle.station.specs.Stations.{head}
use Rattle.station.specs.declared.station.Station.{Station}
use Rattle.sent.specs.declared.round.Sight.{Sight}

-- itself, its live set, its successor, its head
abbrev pub sight : Station → Sight
sight s =
    record { own = s.own; live = s.live; next = successor s.live s.n s.own; head = head s }
