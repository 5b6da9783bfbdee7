-- A record in a driver's hands, and what is known of it.
use Rattle.station.specs.declared.station.Answer.{Answer}
use Rattle.record_theorems.specs.RoundTrip.{ReadsAs}
use Rattle.codec.specs.Ring.{read_ring}
use Rattle.std.specs.Prelude.{◌≡◌, true, List, ℕ}
use Rattle.codec.specs.Octets.{Octets}
use Rattle.parts.specs.declared.request.Request.{Request}
use Rattle.station_theorems.specs.Shaped.{WholeStation}
use Rattle.station_theorems.specs.Small.{Small}
use Rattle.records.specs.Record.{read_record}
use Rattle.driver_calls.specs.Calls.{station_in, Making, Starting, Hearing, Timing, Queueing, Taking, made_from}

-- made, and then changed by calls alone, whatever number they give
pub data Held : List ℕ → Type 0 where
  by_make : (rec file : List ℕ) (own : ℕ) (rec' : List ℕ) → Making rec file own 0 rec' → Held rec'
  by_start : (rec out told : List ℕ) (r : ℕ) (rec' out' told' : List ℕ) → Held rec → Starting rec out told r rec' out' told' → Held rec'
  by_frame : (rec store : List ℕ) (from to : ℕ) (packet out told : List ℕ) (r : ℕ) (rec' store' out' told' : List ℕ) → Held rec → Octets packet
      → Hearing rec store from to packet out told r rec' store' out' told' → Held rec'
  by_timer : (rec store out told : List ℕ) (r : ℕ) (rec' out' told' : List ℕ) → Held rec → Timing rec store out told r rec' out' told' → Held rec'
  by_queue : (rec store : List ℕ) (q : Request) (payload : List ℕ) (r : ℕ) (rec' store' : List ℕ) → Held rec
      → Queueing rec store q payload r rec' store' → Held rec'
  by_take : (rec store : List ℕ) (channel : ℕ) (room told : List ℕ) (r : ℕ) (rec' room' told' : List ℕ) → Held rec
      → Taking rec store channel room told r rec' room' told' → Held rec'

-- it is whole, and holds a whole station of its ring
pub record Sure (rec : List ℕ) : Type 0 where
  pub ok : (read_record rec).ok ≡ true
  pub whole : WholeStation (station_in rec)
  pub small : Small (read_record rec).ring.n (read_record rec).ring.limit (station_in rec)

-- a record that is made reads as the file's ring and the made station, which is whole
pub record Made (file : List ℕ) (own : ℕ) (rec : List ℕ) : Type 0 where
  pub reads : ReadsAs rec (read_ring file).ring (made_from file own)
  pub good_file : (read_ring file).number ≡ 0
  pub whole : WholeStation (made_from file own)
  pub small : Small (read_ring file).ring.n (read_ring file).ring.limit (made_from file own)

-- what a call's answer keeps
abbrev pub Keeps : List ℕ → Answer → Type 0
Keeps rec a = WholeStation a.station × Small (read_record rec).ring.n (read_record rec).ring.limit a.station
