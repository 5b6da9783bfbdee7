-- Reading after writing: what is written of a good ring file and a whole station of its ring is a whole record, and reads as that
-- ring and that station. Assumes nothing.
use mathlib.Core.Path.{◌≡◌, sym, ap, ◌∙◌, subst}
use mathlib.Core.Bool.{true}
use mathlib.Core.List.{List}
use Prim.Native.Nat.{ℕ}
use Rattle.codec.specs.Ring.{read_ring}
use Rattle.wholeness.specs.Whole.{whole}
use Rattle.station.specs.declared.station.Station.{Station}
use Rattle.records.specs.Record.{ring_octets, record_octets, file_of}
use Rattle.records.proofs.Laws.Load.{whole_of}
use Rattle.records.proofs.Laws.Sizes.{length_ring}
use Rattle.record_theorems.specs.RoundTrip.{ReadsAs, OfRing}
use Rattle.record_theorems.specs.Typed.{Typed}
use Rattle.record_theorems.proofs.Laws.Front.{file_fits, ring_file, ring_pad}
use Rattle.record_theorems.proofs.Laws.Reading.{reads_as, front_reads}

pub read_after_write : (file : List ℕ) (s : Station) → (read_ring file).number ≡ 0 → OfRing (read_ring file).ring s → whole s ≡ true → Typed s
    → ReadsAs (record_octets file s) (read_ring file).ring s
read_after_write file s good of-ring w t =
    let e : file_of (ring_octets file) ≡ file = ring_file file good in
    let back : file ≡ file_of (ring_octets file) = sym e in
    reads_as (record_octets file s) (read_ring file) s
    (front_reads (ring_octets file) s (length_ring file (file_fits file good)) (ring_pad file good)
    (ap (λ (l : List ℕ). (read_ring l).number) e ∙ good)
    (subst (λ (l : List ℕ). OfRing (read_ring l).ring s) back of-ring) w t
    ∙ ap (λ (l : List ℕ). whole_of (read_ring l) s) e)
