-- Writing after reading: a whole record's octets are those written of its ring file and its station, so that every octet is fixed,
-- and no other octets read as that ring and that station. Assumes nothing.
use mathlib.Core.Path.{◌≡◌, sym, ap, ◌∙◌}
use mathlib.Core.Bool.{true}
use mathlib.Core.List.{List, ◌++◌, append-nil}
use Prim.Native.Nat.{ℕ, ◌+◌, ◌-◌, ◌≤◌}
use native.Mathlib.Omega.{arith}
use borrow.Author.Tests.{eqb-true}
use lib.ListN.{length, drop, take-append-drop, drop_of_length-le}
use Rattle.codec.specs.Octets.{Octets, zeros, first_nonzero}
use Rattle.codec.specs.Ring.{Ring, read_ring, ring_file}
use Rattle.codec.proofs.Laws.Octets.{octets_take}
use Rattle.codec.proofs.Theorems.RingFile.{file_again}
use Rattle.records.specs.Layout.{ring_room, own_at, record_length}
use Rattle.records.specs.Record.{Loaded, station_octets, ring_octets, record_octets, file_length, file_of, ring_from, station_of, read_record}
use Rattle.records.proofs.Laws.Load.{whole_of, file_room, length_file}
use Rattle.record_theorems.specs.RoundTrip.{WrittenAgain}
use Rattle.record_theorems.proofs.Laws.Goes.{Goes, goes_join}
use Rattle.record_theorems.proofs.Laws.Front.{zeros_stand}
use Rattle.record_theorems.proofs.Laws.Stations.{station_written}
use Rattle.record_theorems.proofs.Laws.Reading.{Parts, parts, parts_read}

module _ (rec : List ℕ) (o : Octets rec) (p : Parts rec) where
  abbrev file : List ℕ
  file = file_of rec

  long : length file ≡ file_length rec
  long = length_file rec p.sized

  file_here : Goes rec 0 file (file_length rec)
  file_here = sym (take-append-drop (file_length rec) rec)

  zeros_here : Goes rec (file_length rec) (zeros (ring_room - length file)) own_at
  zeros_here =
      let room : file_length rec ≤ ring_room = file_room rec in
      let k : ℕ = ring_room - file_length rec in
      let end : file_length rec + k ≡ own_at = omega arith in
      let none : first_nonzero rec (file_length rec) k ≡ file_length rec + k = eqb-true _ _ p.pad ∙ sym end in
      zeros_stand rec (file_length rec) k (omega (arith, p.sized)) none
      ∙ ap (λ (n : ℕ). zeros k ++ drop n rec) end
      ∙ ap (λ (n : ℕ). zeros (ring_room - n) ++ drop own_at rec) (sym long)

  octets_again : record_octets (file_of rec) (station_of rec) ≡ rec
  octets_again =
      let station : Goes rec own_at (station_octets (station_of rec)) record_length =
      station_written rec (ring_from rec).ring.n (ring_from rec).ring.limit o p.sized p.turn p.flags in
      let ring : Goes rec 0 (ring_octets file) own_at = goes_join rec file (zeros (ring_room - length file)) 0 (file_length rec) own_at file_here zeros_here in
      let all : Goes rec 0 (record_octets file (station_of rec)) record_length =
      goes_join rec (ring_octets file) (station_octets (station_of rec)) 0 own_at record_length ring station in
      sym (all ∙ ap (λ (l : List ℕ). record_octets file (station_of rec) ++ l) (drop_of_length-le rec {i = record_length} (omega (arith, p.sized))) ∙ append-nil (record_octets file (station_of rec)))

-- ---- the theorem

pub write_after_read : (rec : List ℕ) → Octets rec → (read_record rec).ok ≡ true → WrittenAgain rec
write_after_read rec o ok =
    let p = parts rec ok in
    let reads : read_record rec ≡ whole_of (ring_from rec) (station_of rec) = parts_read rec p in
    let ring : (read_ring (file_of rec)).ring ≡ (read_record rec).ring = sym (ap (λ (l : Loaded). l.ring) reads) in
    let all : record_octets (file_of rec) (read_record rec).station ≡ rec =
    ap (λ (l : Loaded). record_octets (file_of rec) l.station) reads ∙ octets_again rec o p in
    let written : file_of rec ≡ ring_file (read_record rec).ring = file_again (file_of rec) (octets_take (file_length rec) rec o) p.ring ∙ ap ring_file ring in
    record {
      file_good = p.ring;
      file_ring = ring;
      again = all;
      again_of_ring = ap (λ (l : List ℕ). record_octets l (read_record rec).station) (sym written) ∙ all;
    }

pub only_record : (rec other : List ℕ) → Octets rec → Octets other → (read_record rec).ok ≡ true → (read_record other).ok ≡ true
    → (read_record rec).ring ≡ (read_record other).ring → (read_record rec).station ≡ (read_record other).station → rec ≡ other
only_record rec other o o' ok ok' ring station =
    sym (write_after_read rec o ok).again_of_ring
    ∙ ap (λ (r : Ring). record_octets (ring_file r) (read_record rec).station) ring
    ∙ ap (record_octets (ring_file (read_record other).ring)) station
    ∙ (write_after_read other o' ok').again_of_ring
