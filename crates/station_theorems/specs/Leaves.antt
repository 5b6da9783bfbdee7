-- What leaves the send list, and what is told of it, in a call that may strike a station or hear an acknowledgement.
use Rattle.std.specs.Prelude.{◌≡◌, Bool, true, false, not, ◌&&◌, ◌||◌, ◌++◌, ℕ, eqb, Option, None, Some}
use Rattle.parts.specs.Choose.{pick}
use Rattle.parts.specs.Messages.{all, flies, fits, only}
use Rattle.parts.specs.Frames.{flight}
use Rattle.station.specs.Stations.{awaited_of, alone}
use Rattle.station.specs.Strike.{strike}
use Rattle.parts.specs.declared.list.Message.{Message}
use Rattle.parts.specs.declared.list.Messages.{Messages}
use Rattle.parts.specs.declared.list.Which.TheVariants.{WaitingFor}
use Rattle.station.specs.declared.station.Station.{Station}
use Rattle.station.specs.declared.station.Answer.{Answer}

-- a message waits, and goes to the station named
abbrev pub waits_to : Station → Option ℕ → Message → Bool
waits_to s None m = false
waits_to s (Some p) m = fits (WaitingFor (flight (awaited_of s)) p) m

-- it is the one in flight
abbrev pub flying : Station → Message → Bool
flying s m = flies (flight (awaited_of s)) m

-- from s to t the waiting messages to w leave, and the one in flight if it is given up (`flew`) or acknowledged (`landed`); the others remain
-- in order of acceptance; told are the waiting ones in order of acceptance, then the one in flight if it is given up
pub record Leaves (s t : Station) (gone : Messages) (w : Option ℕ) (flew landed : Bool) : Type 0 where
  pub remaining : all t.sends ≡ only (λ (m : Message). not (waits_to s w m || ((flew || landed) && flying s m))) (all s.sends)
  pub told : all gone ≡ only (waits_to s w) (all s.sends) ++ only (λ (m : Message). flew && flying s m) (all s.sends)

-- the same of a call's answer
abbrev pub AnswerLeaves : Station → Option ℕ → Bool → Bool → Answer → Type 0
AnswerLeaves s w flew landed a = Leaves s a.station a.gone w flew landed

-- another than this one
abbrev pub another_than : ℕ → Option ℕ → Option ℕ
another_than own None = None
another_than own (Some p) = pick (eqb p own) None (Some p)

-- the station stops when it is struck: Excluded where it is this station, Alone where nobody else is left
abbrev pub stops : Station → Option ℕ → Bool
stops s None = false
stops s (Some p) = pick (eqb p s.own) true (alone (strike s p))
