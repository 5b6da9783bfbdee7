-- "Any number but 0 changes and sends nothing": the station is handed back as it came, no frame is sent, nobody is told, nothing
-- is given up, no payload moves.
use Rattle.std.specs.Prelude.{◌≡◌, None}
use Rattle.parts.specs.Messages.{none}
use Rattle.station.specs.declared.station.Station.{Station}
use Rattle.station.specs.declared.station.Answer.{Answer}

-- an answer that does nothing to the station s
pub record NothingDone (s : Station) (a : Answer) : Type 0 where
  pub station_kept : a.station ≡ s
  pub no_frame : a.sent ≡ None
  pub nobody_struck : a.struck ≡ None
  pub none_given_up : a.gone ≡ none
  pub no_payload : a.payload ≡ None

-- an answer that does nothing where its number is not 0
abbrev pub Refuses : Station → Answer → Type 0
Refuses s a = (a.number ≡ 0 → ⊥) → NothingDone s a

-- "does nothing and gives 0 when Idle"
pub record Idles (s : Station) (a : Answer) : Type 0 where
  pub gives_zero : a.number ≡ 0
  pub nothing_done : NothingDone s a
