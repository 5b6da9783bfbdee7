-- A whole record with another whole station of its ring written over its own is a whole record of that station and the same ring.
-- Assumes nothing.
use mathlib.Core.Path.{◌≡◌, sym, ap, ◌∙◌, subst}
use mathlib.Core.Bool.{true}
use mathlib.Core.List.{List, [], ◌++◌, append-nil}
use Prim.Native.Nat.{ℕ, ◌+◌}
use native.Mathlib.Omega.{arith}
use lib.ListN.{length, take, drop, take-append-drop, drop_of_length-le}
use lib.Seq.{length-take-le}
use Rattle.codec.specs.Octets.{laid}
use Rattle.codec.specs.Ring.{Ring, read_ring}
use Rattle.wholeness.specs.Whole.{whole}
use Rattle.station.specs.declared.station.Station.{Station}
use Rattle.records.specs.Layout.{ring_room, own_at}
use Rattle.records.specs.Record.{Loaded, station_octets, file_of, pad_good, read_record}
use Rattle.records.proofs.Laws.Load.{whole_of}
use Rattle.record_theorems.specs.RoundTrip.{OfRing, ReadsAs}
use Rattle.record_theorems.specs.Typed.{Typed}
use Rattle.record_theorems.proofs.Laws.Front.{front_file, front_pad}
use Rattle.record_theorems.proofs.Laws.Stations.{length_station}
use Rattle.record_theorems.proofs.Laws.Reading.{parts, parts_read, reads_as, front_reads}

pub read_anew : (rec : List ℕ) (s : Station) → (read_record rec).ok ≡ true → OfRing (read_record rec).ring s → whole s ≡ true → Typed s
    → ReadsAs (laid rec own_at (station_octets s)) (read_record rec).ring s
read_anew rec s ok of-ring w t =
    let p = parts rec ok in
    let f : List ℕ = take own_at rec in
    let x : List ℕ = station_octets s in
    let sized : length f ≡ ring_room = length-take-le own_at rec (omega (arith, p.sized)) in
    let split : rec ≡ f ++ drop own_at rec = sym (take-append-drop own_at rec) in
    let file : file_of rec ≡ file_of f = ap file_of split ∙ front_file f (drop own_at rec) sized in
    let pad : pad_good f ≡ true = sym (front_pad f (drop own_at rec) sized) ∙ ap pad_good (sym split) ∙ p.pad in
    let none : drop (own_at + length x) rec ≡ [] = drop_of_length-le rec {i = own_at + length x} (omega (arith, p.sized, length_station s t)) in
    let over : laid rec own_at x ≡ f ++ x = ap (λ (l : List ℕ). f ++ (x ++ l)) none ∙ ap (λ (l : List ℕ). f ++ l) (append-nil x) in
    let ring : (read_record rec).ring ≡ (read_ring (file_of f)).ring =
    ap (λ (l : Loaded). l.ring) (parts_read rec p) ∙ ap (λ (l : List ℕ). (read_ring l).ring) file in
    let reads : read_record (f ++ x) ≡ whole_of (read_ring (file_of f)) s =
    front_reads f s sized pad (ap (λ (l : List ℕ). (read_ring l).number) (sym file) ∙ p.ring) (subst (λ (r : Ring). OfRing r s) ring of-ring) w t in
    let as_ring : ReadsAs (laid rec own_at x) (read_ring (file_of f)).ring s = reads_as (laid rec own_at x) (read_ring (file_of f)) s (ap read_record over ∙ reads) in
    subst (λ (r : Ring). ReadsAs (laid rec own_at x) r s) (sym ring) as_ring
