-- What a striking tells as given up, and in which order.
use Rattle.std.specs.Prelude.{◌≡◌, Bool, true, false, not, ◌||◌, List, [], ◌++◌, ℕ}
use Rattle.parts.specs.Messages.{all, flies, fits, only}
use Rattle.parts.specs.Frames.{flight}
use Rattle.station.specs.Stations.{awaited_of, alone}
use Rattle.station.specs.Strike.{strike}
use Rattle.parts.specs.declared.list.Message.{Message}
use Rattle.parts.specs.declared.list.Which.TheVariants.{WaitingFor}
use Rattle.station.specs.declared.station.Station.{Station}
use Rattle.station.specs.declared.station.Answer.{Answer}

-- the waiting messages to p, in order of acceptance
abbrev pub waiting_for : Station → ℕ → List Message
waiting_for s p = only (fits (WaitingFor (flight (awaited_of s)) p)) (all s.sends)

-- the message in flight
abbrev pub in_flight : Station → List Message
in_flight s = only (flies (flight (awaited_of s))) (all s.sends)

-- those that neither wait for p nor fly, in order of acceptance
abbrev pub the_others : Station → ℕ → List Message
the_others s p = only (λ (m : Message). not (fits (WaitingFor (flight (awaited_of s)) p) m || flies (flight (awaited_of s)) m)) (all s.sends)

-- at the last timer, its addressee being p
pub record TimerTells (s : Station) (p : ℕ) (a : Answer) : Type 0 where
  pub given_up : all a.gone ≡ waiting_for s p ++ in_flight s
  pub remaining : all a.station.sends ≡ the_others s p

-- told where the failing station is p, case by case; a message in flight that is acknowledged first is not told
pub record FrameTells (s : Station) (acked : Bool) (p : ℕ) (a : Answer) : Type 0 where
  pub others_left : (p ≡ s.own → ⊥) → alone (strike s p) ≡ false → all a.gone ≡ waiting_for s p
  pub nobody_left : (p ≡ s.own → ⊥) → alone (strike s p) ≡ true → acked ≡ false → all a.gone ≡ waiting_for s p ++ in_flight s
  pub nobody_left_acknowledged : (p ≡ s.own → ⊥) → acked ≡ true → all a.gone ≡ waiting_for s p
  pub itself : p ≡ s.own → acked ≡ false → all a.gone ≡ in_flight s
  pub itself_acknowledged : p ≡ s.own → acked ≡ true → all a.gone ≡ []
