-- Striking: who may be struck, and what it does to the live set and to what is told.
use Rattle.std.specs.Prelude.{◌≡◌, true, ℕ, ◌≤◌, None, Some}
use Rattle.parts.specs.Moves.{move_of, runs}
use Rattle.parts.specs.Live.{live_at, without}
use Rattle.parts.specs.Frames.{failing_of}
use Rattle.station.specs.Stations.{state_of, awaited_of}
use Rattle.parts.specs.Live.{newly}
use Rattle.station.specs.Heard.{checks}
use Rattle.parts.specs.declared.moves.State.TheVariants.{Waiting}
use Rattle.parts.specs.declared.moves.Event.TheVariants.{Heard}
use Rattle.parts.specs.declared.frame.Frame.{Frame}
use Rattle.station.specs.declared.station.Station.{Station}
use Rattle.station.specs.declared.station.Answer.{Answer}

-- from a station to an answer, where only stations that `may` are told
pub record Strikes (s : Station) (a : Answer) (may : ℕ → Type 0) : Type 0 where
  pub told_leaves : (p : ℕ) → a.struck ≡ Some p → a.station.live ≡ without s.live p
  pub told_was_live : (p : ℕ) → a.struck ≡ Some p → live_at s.live p ≡ true
  pub told_only : (p : ℕ) → a.struck ≡ Some p → may p
  pub nobody_leaves : a.struck ≡ None → a.station.live ≡ s.live

-- p is the failing station of a frame that is heard and passes the checks
pub record FailingHeard (s : Station) (f : Frame) (from to p : ℕ) : Type 0 where
  pub hears : move_of (state_of s) Heard ≡ runs
  pub passed : checks s from to ≡ 0
  pub failing_is : failing_of f ≡ Some p

-- p is the addressee of the awaited frame, and the retries are used up
pub record LastTimer (s : Station) (p : ℕ) : Type 0 where
  pub waits : state_of s ≡ Waiting
  pub frame : Frame
  pub awaits : awaited_of s ≡ Some (frame, p)
  pub last : s.limit ≤ s.turn.retries

-- p is struck, and told if it was live
pub record IsStruck (s : Station) (p : ℕ) (a : Answer) : Type 0 where
  pub live_without : a.station.live ≡ without s.live p
  pub told_if_live : a.struck ≡ newly s.live p
