-- A bystander: a station that a heard frame leaves alone.
use Rattle.std.specs.Prelude.{◌≡◌, None}
use Rattle.station.specs.declared.station.Station.{Station}
use Rattle.station.specs.declared.station.Answer.{Answer}

-- a station handed back as it was, and nothing sent
pub record Untouched (s : Station) (a : Answer) : Type 0 where
  pub same : a.station ≡ s
  pub silent : a.sent ≡ None
