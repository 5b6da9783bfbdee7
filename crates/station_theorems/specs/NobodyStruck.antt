-- An answer that strikes nobody and gives nothing up.
use Rattle.std.specs.Prelude.{◌≡◌, None}
use Rattle.parts.specs.Messages.{none}
use Rattle.station.specs.declared.station.Station.{Station}
use Rattle.station.specs.declared.station.Answer.{Answer}

-- an answer to the station s that strikes nobody
pub record StrikesNobody (s : Station) (a : Answer) : Type 0 where
  pub nobody_struck : a.struck ≡ None
  pub live_kept : a.station.live ≡ s.live
  pub none_given_up : a.gone ≡ none
  pub count_kept : a.station.counts.givenup ≡ s.counts.givenup
