-- "A frame record takes the oldest frame on the wire; with none it does nothing": and only the addressee answers it.
use Rattle.std.specs.Prelude.{◌≡◌, Bool, true, false, List, [], ◌∷◌, ◌++◌, ℕ, ◌<◌, ◌≤◌, length, None}
use Rattle.capture.specs.declared.record.Event.{Event}
use Rattle.capture.specs.declared.record.Event.TheVariants.{Delivered, LostForAddressee, LostForAll, Timer, Queue}
use Rattle.day.specs.declared.wire.Flying.{Flying}
use Rattle.day.specs.Day.{Day, member_at, joining}
use Rattle.day.specs.Records.{hearers, answer_of, after_record}

-- a frame, delivered or lost
abbrev pub is_frame : Event → Bool
is_frame Delivered = true
is_frame LostForAddressee = true
is_frame LostForAll = true
is_frame (Timer station) = false
is_frame (Queue station request) = false

-- the oldest frame f leaves the wire; each station is as its own answer leaves it; whoever is not the addressee sends nothing; what the
-- addressee sends, at most one frame, joins the end
pub record TakesOldest (d : Day) (e : Event) (f : Flying) (rest : List Flying) : Type 0 where
  pub stations_after : (p : ℕ) → p < d.n → member_at (after_record d e) p ≡ (answer_of (hearers e f) d f p).station
  pub others_silent : (p : ℕ) → (p ≡ f.to → ⊥) → (answer_of (hearers e f) d f p).sent ≡ None
  pub wire_after : (after_record d e).wire ≡ rest ++ joining f.to (answer_of (hearers e f) d f f.to).sent
  pub at_most_one : length (joining f.to (answer_of (hearers e f) d f f.to).sent) ≤ 1

pub record FrameRecord (d : Day) (e : Event) : Type 0 where
  pub with_none : d.wire ≡ [] → after_record d e ≡ d
  pub with_some : (f : Flying) (rest : List Flying) → d.wire ≡ f ∷ rest → TakesOldest d e f rest
