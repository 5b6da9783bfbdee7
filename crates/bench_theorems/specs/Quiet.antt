-- What a fault-free ring looks like between two steps: every live set is full; the sender waits for the frame on the wire; the
-- sender of the frame before it waits for that one, which the frame on the wire acknowledges; everybody else is Idle.
use Rattle.std.specs.Prelude.{◌≡◌, true, ℕ, ◌+◌, ◌-◌, ◌%◌, ◌^◌, ◌<◌, ◌≤◌, leb, length, Option, None, Some}
use Rattle.parts.specs.Choose.{pick}
use Rattle.parts.specs.Live.{full, after}
use Rattle.parts.specs.Frames.{number_of, next, fit}
use Rattle.station.specs.Stations.{state_of, awaited_of, head}
use Rattle.sent.specs.Round.{priority_of}
use Rattle.parts.specs.declared.moves.State.TheVariants.{Idle, Waiting}
use Rattle.parts.specs.declared.frame.TokenFrame.{TokenFrame}
use Rattle.parts.specs.declared.frame.TransmitFrame.{TransmitFrame}
use Rattle.parts.specs.declared.frame.InformationFrame.{InformationFrame}
use Rattle.parts.specs.declared.frame.Frame.{Frame}
use Rattle.parts.specs.declared.frame.Frame.TheVariants.{Token, Transmit, Information}
use Rattle.station.specs.declared.station.Station.{Station}
use Rattle.station_theorems.specs.Shaped.{WholeStation}
use Rattle.bench.specs.Ring.{station_at}
use Rattle.bench.specs.declared.ring.Bench.{Bench}

-- ---- a member

-- how many places p stands after the master m on a ring of n
unfoldable pub offset : ℕ → ℕ → ℕ → ℕ
offset n m p = (p + n - m) % n

-- a whole station at the position p of a ring of n with a retry limit; every member is live
pub record Member (n limit p : ℕ) (s : Station) : Type 0 where
  pub same_n : s.n ≡ n
  pub same_limit : s.limit ≡ limit
  pub own : s.own ≡ p
  pub live : s.live ≡ full n
  pub whole : WholeStation s

-- ---- whose turn it is

-- the station at p, the frame f to `to` being on the wire from `from`, and the frame before it having come from `before` (`from`
-- itself where f is the first of all)
pub data Stands (from before : ℕ) (f : Frame) (to p : ℕ) (s : Station) : Type 0 where
  sender : p ≡ from → state_of s ≡ Waiting → awaited_of s ≡ Some (f, to) → Stands from before f to p s
  last_sender : (p ≡ from → ⊥) → p ≡ before → state_of s ≡ Waiting → (g : Frame) → awaited_of s ≡ Some (g, from) → next (number_of g) ≡ number_of f
      → Stands from before f to p s
  at_rest : (p ≡ from → ⊥) → (p ≡ before → ⊥) → state_of s ≡ Idle → Stands from before f to p s

-- ---- what the frame on the wire is

-- a token on its way to the next place, which names one of those asked: the sender stands `offset n master from` places after the
-- master, and the stations up to it have been asked; a transmit token from its master to the station that it names; information.
-- No frame names a failing station
pub data Phase (n from to : ℕ) : Frame → Type 0 where
  token : (t : TokenFrame) → t.failing ≡ None → to ≡ after n from → offset n t.master t.named ≤ offset n t.master from
      → Phase n from to (Token t)
  transmit : (t : TransmitFrame) → t.master ≡ from → to ≡ t.named → Phase n from to (Transmit t)
  information : (i : InformationFrame) → Phase n from to (Information i)

-- the head's priority, 0 if there is none
abbrev pub head_priority : Station → ℕ
head_priority s = priority_of (head s)

-- what is offered, `heads` being the priority of each station's head: a token's priority is 0 and its master named, or the named
-- station has a waiting message at least that high; so has the station to which a transmit token goes
pub data Offers (heads : ℕ → ℕ) : Frame → Type 0 where
  no_bid : (t : TokenFrame) → t.priority ≡ 0 → t.named ≡ t.master → Offers heads (Token t)
  bid : (t : TokenFrame) → 1 ≤ t.priority → t.priority ≤ heads t.named → Offers heads (Token t)
  granted : (t : TransmitFrame) → 1 ≤ t.priority → t.priority ≤ heads t.named → Offers heads (Transmit t)
  sent : (i : InformationFrame) → Offers heads (Information i)

-- ---- how long ago a station last handled a frame

-- none, or one that lies between 1 and `most` numbers before k
pub data Behind (k most : ℕ) : Option ℕ → Type 0 where
  never : Behind k most None
  ago : (j e : ℕ) → 1 ≤ e → e ≤ most → k ≡ (j + e) % 2 ^ 16 → Behind k most (Some j)

-- at most so many for the station at p: every round passes everybody, and a token has just passed those whom it asked. It is never
-- more than 2n + 2, far below 65,536
unfoldable pub longest : ℕ → ℕ → Frame → ℕ → ℕ
longest n from (Token t) p =
    pick (leb (offset n t.master p) (offset n t.master from)) (offset n t.master from + 1) (n + 3 + offset n t.master from)
longest n from (Transmit t) p = n + 1
longest n from (Information i) p = n + 2

-- ---- all of it

-- the stations `at` the places of a ring of n with a retry limit, and the frame f on the wire
pub record Picture (n limit : ℕ) (at : ℕ → Station) (from : ℕ) (f : Frame) (to : ℕ) : Type 0 where
  pub some_members : 2 ≤ n
  pub most_members : n ≤ 64
  pub members : (p : ℕ) → p < n → Member n limit p (at p)
  pub sender_member : from < n
  pub addressee_member : to < n
  pub another : to ≡ from → ⊥
  pub fits : fit n f ≡ true
  pub phase : Phase n from to f
  pub offers : Offers (λ (p : ℕ). head_priority (at p)) f
  pub before : ℕ
  pub before_member : before < n
  pub first : before ≡ from → number_of f ≡ 0
  pub turns : (p : ℕ) → p < n → Stands from before f to p (at p)
  pub handled : (p : ℕ) → p < n → Behind (number_of f) (longest n from f p) (at p).turn.handled

-- a bench with a frame on the wire, of which the picture holds
pub record Quiet (limit : ℕ) (b : Bench) : Type 0 where
  pub table : length b.stations ≡ 64
  pub frame : Frame
  pub to : ℕ
  pub on_wire : b.wire.sent ≡ Some (frame, to)
  pub picture : Picture b.n limit (station_at b) b.wire.from frame to
