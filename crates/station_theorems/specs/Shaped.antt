-- A station as the code holds it: its arrays are as long as their types say; and a whole one.
use Rattle.std.specs.Prelude.{◌≡◌, true, length}
use Rattle.wholeness.specs.Whole.{whole}
use Rattle.station.specs.declared.station.Station.{Station}

-- the arrays of a station have the lengths of their types
pub record Shaped (s : Station) : Type 0 where
  pub seats : length s.live.on ≡ 64
  pub sends : length s.sends.items ≡ 16
  pub receives : length s.receives.items ≡ 16

-- a whole station whose arrays have the lengths of their types
pub record WholeStation (s : Station) : Type 0 where
  pub shaped : Shaped s
  pub is_whole : whole s ≡ true
