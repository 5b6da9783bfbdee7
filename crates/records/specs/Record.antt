-- The record: a station of a ring in octets. The ring file's and zeros up to the longest ring file's length, then the station's fields,
-- every octet fixed. "A record is whole if it reads by docs/'s layout, length included; its ring is good; ..."
use Rattle.std.specs.Prelude.{ℕ, ◌-◌, ◌≡◌, Bool, true, false, not, List, [], ◌∷◌, ◌++◌, eqb, length, take}
use Rattle.codec.specs.Order.{first_of}
use Rattle.codec.specs.Octets.{octets, number_at, zeros, first_nonzero}
use Rattle.codec.specs.Ring.{Ring, RingRead, count, member_at, read_ring, no_ring}
use Rattle.parts.specs.Choose.{all_of}
use Rattle.station.specs.Stations.{made}
use Rattle.wholeness.specs.Whole.{rest_blank, whole}
use Rattle.station.specs.declared.station.Counts.{Counts}
use Rattle.station.specs.declared.station.Station.{Station}
use Rattle.records.specs.Layout.{ring_room, own_at, lost_at, given_up_at, live_at, sends_at, receives_at, record_length}
use Rattle.records.specs.Fields.{turn_at, turn_good, turn_octets, live_from, flags_good, live_octets, rest_good, messages_at, messages_octets}

-- ---- the octets

abbrev pub counts_octets : Counts → List ℕ
counts_octets c = octets 4 c.lost ++ octets 4 c.givenup

abbrev pub lists_octets : Station → List ℕ
lists_octets s = messages_octets s.sends ++ messages_octets s.receives

-- the fields before the lists
abbrev pub head_octets : Station → List ℕ
head_octets s = turn_octets s.own s.turn ++ (counts_octets s.counts ++ live_octets s.live)

-- the fields, in their order
abbrev pub station_octets : Station → List ℕ
station_octets s = head_octets s ++ lists_octets s

abbrev pub ring_octets : List ℕ → List ℕ
ring_octets file = file ++ zeros (ring_room - length file)

abbrev pub record_octets : List ℕ → Station → List ℕ
record_octets file s = ring_octets file ++ station_octets s

-- ---- reading

-- the ring file says how long it is, by its form and its N
abbrev pub file_length : List ℕ → ℕ
file_length s = member_at s (count s)

abbrev pub file_of : List ℕ → List ℕ
file_of s = take (file_length s) s

abbrev pub ring_from : List ℕ → RingRead
ring_from s = read_ring (file_of s)

-- only zeros follow it
abbrev pub pad_good : List ℕ → Bool
pad_good s = eqb (first_nonzero s (file_length s) (ring_room - file_length s)) ring_room

abbrev pub counts_at : List ℕ → Counts
counts_at s = record { lost = number_at s lost_at 4; givenup = number_at s given_up_at 4 }

abbrev pub station_from : List ℕ → ℕ → ℕ → Station
station_from s n limit =
    record {
      n = n;
      limit = limit;
      own = number_at s own_at 1;
      live = live_from s;
      sends = messages_at s sends_at;
      receives = messages_at s receives_at;
      turn = turn_at s;
      counts = counts_at s;
    }

abbrev pub station_of : List ℕ → Station
station_of s = station_from s (ring_from s).ring.n (ring_from s).ring.limit

-- every octet is one that writing the station gives
unfoldable pub fields_good : List ℕ → Bool
fields_good s = all_of (pad_good s ∷ turn_good s ∷ flags_good s live_at 64 ∷ [])

-- only zeros follow the messages of each list: so it is in every whole record
unfoldable pub rests_good : List ℕ → Bool
rests_good s = all_of (rest_good s sends_at ∷ rest_good s receives_at ∷ [])

-- the octets of a record are good, whatever its station
unfoldable pub octets_good : List ℕ → Bool
octets_good s = all_of (eqb (ring_from s).number 0 ∷ fields_good s ∷ rests_good s ∷ [])

-- what reading a record gives: the station and its ring, or that the record is not whole
pub record Loaded : Type 0 where
  pub ok : Bool
  pub ring : Ring
  pub station : Station

-- no station
abbrev pub not_whole : Loaded
not_whole = record { ok = false; ring = (no_ring 0).ring; station = made 0 0 0 }

unfoldable pub read_record : List ℕ → Loaded
read_record s =
    first_of (record { ok = true; ring = (ring_from s).ring; station = station_of s })
    ((not (eqb (length s) record_length), not_whole)
    ∷ (not (eqb (ring_from s).number 0), not_whole)
    ∷ (not (fields_good s), not_whole)
    ∷ (not (whole (station_of s)), not_whole)
    ∷ [])

-- what opening a record leaves: a station that is whole exactly where the record is; then it is the record's, and its members' addresses
-- stand first in an array. Nothing follows the messages of its lists, which is what asking whether it is whole requires
pub record Opened (s addresses : List ℕ) (st : Station) : Type 0 where
  pub blank : (rest_blank st.sends ≡ true) × (rest_blank st.receives ≡ true)
  pub same_test : whole st ≡ (read_record s).ok
  pub station : whole st ≡ true → st ≡ (read_record s).station
  pub members : whole st ≡ true → take st.n addresses ≡ take (read_record s).ring.n (read_record s).ring.addresses
