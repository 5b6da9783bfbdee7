-- What calls do to a whole station, and the stations that calls come to.
use Rattle.std.specs.Prelude.{◌≡◌, true, ℕ, ◌<◌, ◌≤◌}
use Rattle.parts.specs.Frames.{fit}
use Rattle.station.specs.Stations.{made}
use Rattle.station.specs.Start.{start_rule}
use Rattle.station.specs.Heard.{frame_rule}
use Rattle.station.specs.Timer.{timer_rule}
use Rattle.station.specs.Queue.{queue_rule}
use Rattle.station.specs.Take.{take_rule}
use Rattle.parts.specs.declared.frame.Frame.{Frame}
use Rattle.parts.specs.declared.request.Request.{Request}
use Rattle.station.specs.declared.station.Station.{Station}
use Rattle.station_theorems.specs.Shaped.{WholeStation}

-- every call leaves a whole station, where the heard frame is fit
pub record KeepsWhole (s : Station) : Type 0 where
  pub start : WholeStation (start_rule s).station
  pub frame : (f : Frame) (from to : ℕ) → fit s.n f ≡ true → WholeStation (frame_rule s f from to).station
  pub timer : WholeStation (timer_rule s).station
  pub queue : (q : Request) → WholeStation (queue_rule s q).station
  pub take : (channel room : ℕ) → WholeStation (take_rule s channel room).station

-- by which calls a station is come to
pub data Reached : Station → Type 0 where
  made_anew : (n limit own : ℕ) → 2 ≤ n → n ≤ 64 → 1 ≤ limit → limit ≤ 15 → own < n → (t : Station) → t ≡ made n limit own → Reached t
  by_start : (s : Station) → Reached s → (t : Station) → t ≡ (start_rule s).station → Reached t
  by_frame : (s : Station) → Reached s → (f : Frame) (from to : ℕ) → fit s.n f ≡ true → (t : Station) → t ≡ (frame_rule s f from to).station → Reached t
  by_timer : (s : Station) → Reached s → (t : Station) → t ≡ (timer_rule s).station → Reached t
  by_queue : (s : Station) → Reached s → (q : Request) (t : Station) → t ≡ (queue_rule s q).station → Reached t
  by_take : (s : Station) → Reached s → (channel room : ℕ) (t : Station) → t ≡ (take_rule s channel room).station → Reached t
