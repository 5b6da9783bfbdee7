-- What is written reads as what it was written of, and what is read is written so again.
use Rattle.std.specs.Prelude.{◌≡◌, true, List, ℕ}
use Rattle.codec.specs.Ring.{Ring, read_ring, ring_file}
use Rattle.station.specs.declared.station.Station.{Station}
use Rattle.records.specs.Record.{read_record, record_octets, file_of}

-- a station's N and R are its ring's
pub record OfRing (r : Ring) (s : Station) : Type 0 where
  pub n_same : s.n ≡ r.n
  pub limit_same : s.limit ≡ r.limit

-- a whole record of this ring and this station
pub record ReadsAs (rec : List ℕ) (r : Ring) (s : Station) : Type 0 where
  pub ok : (read_record rec).ok ≡ true
  pub ring : (read_record rec).ring ≡ r
  pub station : (read_record rec).station ≡ s

-- a whole record is written again of what is read
pub record WrittenAgain (rec : List ℕ) : Type 0 where
  -- the record holds a good ring file, of the ring that it reads as
  pub file_good : (read_ring (file_of rec)).number ≡ 0
  pub file_ring : (read_ring (file_of rec)).ring ≡ (read_record rec).ring
  -- and is written of it and of the station
  pub again : record_octets (file_of rec) (read_record rec).station ≡ rec
  -- and so of what is read alone
  pub again_of_ring : record_octets (ring_file (read_record rec).ring) (read_record rec).station ≡ rec
