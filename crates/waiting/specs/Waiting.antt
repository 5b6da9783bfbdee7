-- Demand 3: on a fault-free ring an accepted message that stays strictly above every other waiting one goes after at most 2N+1 short
-- frames and one foreign information frame. What is counted, and what is asked of the message.
use Rattle.std.specs.Prelude.{◌≡◌, Bool, true, false, ◌&&◌, ℕ, ◌+◌, ◌*◌, ◌-◌, ◌<◌, ◌≤◌, eqb, length, Option, None, Some}
use mathlib.Core.List.{List, [], ◌∷◌, ◌++◌, Memᴰ}
use Rattle.parts.specs.Choose.{pick}
use Rattle.parts.specs.Messages.{all, flies, lowest_free}
use Rattle.parts.specs.Frames.{flight}
use Rattle.sent.specs.Round.{information_of}
use Rattle.station.specs.Stations.{awaited_of}
use Rattle.parts.specs.declared.list.Message.{Message}
use Rattle.parts.specs.declared.request.Request.{Request}
use Rattle.bench.specs.Ring.{station_at, ring_with}
use Rattle.bench.specs.Delivery.{step}
use Rattle.bench.specs.Calls.{queue}
use Rattle.bench.specs.Rows.{rows_on}
use Rattle.bench.specs.Runs.{Event, stepped, queued, after_event, final, frames, stepping}
use Rattle.bench.specs.declared.ring.Wire.{Wire}
use Rattle.bench.specs.declared.ring.Bench.{Bench}
use Rattle.bench.specs.declared.rows.Row.{Row}
use Rattle.bench.specs.declared.rows.Kind.{Kind}
use Rattle.bench.specs.declared.rows.Kind.TheVariants.{T, G, I}
use Rattle.bench_theorems.specs.Counting.{steps_in}

-- ---- the message

-- where it stands from its acceptance on: the station that accepted it, and the place that it got there. No other message of that
-- station has the place before it has left
pub record Spot : Type 0 where
  pub station : ℕ
  pub place : ℕ

-- the place that the station's next message gets
abbrev pub spot_for : Bench → ℕ → Spot
spot_for b from = record { station = from; place = lowest_free (all (station_at b from).sends) }

-- whether the message in flight, if one is, is the one at a place
abbrev pub is_at : Option ℕ → ℕ → Bool
is_at None place = false
is_at (Some p) place = eqb p place

-- the frame on the wire is the message's own: the information frame from its station for its place
unfoldable pub own : Spot → Wire → Bool
own x w = eqb w.from x.station && is_at (flight w.sent) x.place

-- ---- a run from its acceptance on, until it goes

-- the frames composed before its own
unfoldable pub before : Spot → Bench → List Event → List Row
before x b [] = []
before x b (stepped ∷ es) = pick (own x (step b).wire) [] (rows_on (step b).wire ++ before x (step b) es)
before x b (queued from q ∷ es) = before x (after_event b (queued from q)) es

-- whether its own is composed
unfoldable pub goes : Spot → Bench → List Event → Bool
goes x b [] = false
goes x b (stepped ∷ es) = pick (own x (step b).wire) true (goes x (step b) es)
goes x b (queued from q ∷ es) = goes x (after_event b (queued from q)) es

-- where it goes: the step that composes its own frame, and none before it has
pub record GoesAt (x : Spot) (b : Bench) (after : List Event) : Type 0 where
  pub first : List Event
  pub rest : List Event
  pub splits : after ≡ first ++ (stepped ∷ rest)
  pub not_earlier : goes x b first ≡ false
  pub its_own : own x (step (final b first)).wire ≡ true
  pub counted : before x b after ≡ frames b first

-- ---- what is asked of it

-- the message m waits at the station p: it is in the send list and not in flight
pub record Waits (b : Bench) (p : ℕ) (m : Message) : Type 0 where
  pub listed : Memᴰ m (all (station_at b p).sends)
  pub rests : flies (flight (awaited_of (station_at b p))) m ≡ false

-- every other waiting message of every station has a strictly lower priority
abbrev pub OnTop : Spot → ℕ → Bench → Type 0
OnTop x priority b =
    (p : ℕ) → p < b.n → (m : Message) → Waits b p m → ((p ≡ x.station) × (m.place ≡ x.place) → ⊥) → m.priority < priority

abbrev pub Until : Bool → Type 0 → Type 0
Until true later = Unit {0}
Until false later = later

-- in every state from here until it goes
unfoldable pub StaysOnTop : Spot → ℕ → Bench → List Event → Type 0
StaysOnTop x priority b [] = OnTop x priority b
StaysOnTop x priority b (stepped ∷ es) = OnTop x priority b × Until (own x (step b).wire) (StaysOnTop x priority (step b) es)
StaysOnTop x priority b (queued from q ∷ es) =
    OnTop x priority b × StaysOnTop x priority (after_event b (queued from q)) es

-- ---- what is counted, by the frames' kinds

abbrev pub is_short : Kind → ℕ
is_short T = 1
is_short G = 1
is_short I = 0

abbrev pub is_information : Kind → ℕ
is_information T = 0
is_information G = 0
is_information I = 1

unfoldable pub shorts : List Row → ℕ
shorts [] = 0
shorts (r ∷ rs) = is_short r.kind + shorts rs

unfoldable pub informations : List Row → ℕ
informations [] = 0
informations (r ∷ rs) = is_information r.kind + informations rs

unfoldable pub octets_on_wire : List Row → ℕ
octets_on_wire [] = 0
octets_on_wire (r ∷ rs) = r.octets + octets_on_wire rs

-- ---- the two statements

-- the events of a run: a bench that was started and led by any events, the queue call, and what comes after it
abbrev pub at_queue : ℕ → ℕ → List Event → Bench
at_queue n limit es = final (ring_with n limit) es

-- the figures, of a run `after` the acceptance
pub record WithinBound (n : ℕ) (x : Spot) (b : Bench) (after : List Event) : Type 0 where
  pub short_frames : shorts (before x b after) ≤ 2 * n + 1
  pub information_frames : informations (before x b after) ≤ 1
  pub octets : octets_on_wire (before x b after) ≤ (2 * n + 1) * 72 + 1526
  -- "no later than the (2N+3)th frame composed after acceptance"
  pub not_later : length (before x b after) + 1 ≤ 2 * n + 3

-- all that demand 3 promises: the message m was accepted at the spot x, which left the bench b; `after` is what comes then
pub record Bound (n : ℕ) (x : Spot) (m : Message) (b : Bench) (after : List Event) : Type 0 where
  -- short frames, information frames and octets before its own, and which frame its own is
  pub within : WithinBound n x b after
  -- its own is composed, once so many frames are
  pub it_goes : 2 * n + 3 ≤ steps_in after → goes x b after ≡ true
  -- in every state before that the message is in the send list of its station, and waits
  pub waits_until : (es rest : List Event) → after ≡ es ++ rest → goes x b es ≡ false → Waits (final b es) x.station m
  -- the frame that is its own is the message's information frame, from its station to its destination
  pub own_frame : (es rest : List Event) → after ≡ es ++ (stepped ∷ rest) → goes x b es ≡ false → own x (step (final b es)).wire ≡ true
      → (number : ℕ) × ((step (final b es)).wire ≡ record { from = x.station; sent = information_of number m })

-- "for every N from 3 up some run reaches both figures"
abbrev pub fewest : ℕ
fewest = 3

-- in it the message and the foreign one are for station 1: one of no octets, one as long as one can be
abbrev pub its_request : Request
its_request = record { to = 1; priority = 9; channel = 0; length = 0; listens = true }

abbrev pub foreign_request : Request
foreign_request = record { to = 1; priority = 5; channel = 0; length = 1492; listens = true }

-- a run that reaches both
pub record ReachesBound (n : ℕ) (x : Spot) (b : Bench) (after : List Event) : Type 0 where
  pub goes_in_it : goes x b after ≡ true
  pub short_frames : shorts (before x b after) ≡ 2 * n + 1
  pub information_frames : informations (before x b after) ≡ 1
  pub octets : octets_on_wire (before x b after) ≡ (2 * n + 1) * 72 + 1526
  pub which : length (before x b after) + 1 ≡ 2 * n + 3

-- a message from station 0 to 1 with priority 9 and no octets is accepted at the bench b, stays on top, and reaches the bound
pub record Tight (n : ℕ) (b : Bench) : Type 0 where
  pub accepted : (queue b 0 its_request).number ≡ 0
  pub stays : StaysOnTop (spot_for b 0) 9 (queue b 0 its_request).bench (stepping (2 * n + 3))
  pub reaches : ReachesBound n (spot_for b 0) (queue b 0 its_request).bench (stepping (2 * n + 3))

-- the foreign message is queued at the last station
abbrev pub foreign_queued : ℕ → List Event
foreign_queued n = queued (n - 1) foreign_request ∷ []

-- for N = 3: the frames before the message's own in that run
abbrev pub bench_of_three : ℕ → Bench
bench_of_three limit = at_queue 3 limit (foreign_queued 3)

abbrev pub rows_of_three : ℕ → List Row
rows_of_three limit = before (spot_for (bench_of_three limit) 0) (queue (bench_of_three limit) 0 its_request).bench (stepping 9)
