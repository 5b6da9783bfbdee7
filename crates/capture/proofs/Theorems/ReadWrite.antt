-- A record that is written reads as its event, and one that is read is written so again. Assumes nothing.
use mathlib.Core.Path.{◌≡◌, refl, sym, ap, ◌∙◌}
use mathlib.Core.List.{List, ◌++◌}
use Prim.Native.Nat.{ℕ, ◌+◌, ◌^◌, ◌<◌, ◌≤◌}
use native.Mathlib.Omega.{arith}
use lib.ListN.{length, take, drop, length-append}
use lib.Seq.{take_at, drop_at, take_all}
use Rattle.codec.specs.Octets.{Octets, octets, number, number_at}
use Rattle.codec.proofs.Laws.Octets.{back, octets_small, length_octets, length_part, octets_number, octets_take, octets_drop}
use Rattle.capture.specs.Record.{record_length, fields_of, fields_at, read_record, event_fields, packed, record_octets, EventFits, NotSaid}
use Rattle.capture.specs.declared.record.Fields.{Fields}
use Rattle.capture.specs.declared.record.Event.{Event}
use Rattle.capture.specs.declared.record.Read.TheVariants.{Good}
use Rattle.capture.proofs.Laws.Fields.{Within, within, unpacked, packed_number, fields_number, unpacked_packed}
use Rattle.capture.proofs.Laws.Checks.{passes}
use Rattle.capture.proofs.Laws.Events.{event_again, fields_pass, fields_within, fields_again, event_fits}
use Rattle.capture.proofs.Laws.Reading.{found, read_event}

-- ---- written, then read

packed_below : (f : Fields) → Within f → packed f < 256 ^ record_length
unfolding packed
packed_below f w = omega (arith, w.kind, w.station, w.destination, w.priority, w.channel, w.length, w.zeros)

-- the octets of fields have these fields
fields_back : (f : Fields) → Within f → fields_of (octets record_length (packed f)) ≡ f
fields_back f w =
    let r : List ℕ = octets record_length (packed f) in
    let same : number_at r 0 record_length ≡ packed f = back record_length (packed f) (packed_below f w) in
    sym (fields_number r (octets_small record_length (packed f)) (omega arith)) ∙ ap unpacked same ∙ unpacked_packed f w

-- in a ring of n, wherever the record stands
pub read_after_write : (n : ℕ) (e : Event) (front rest : List ℕ) → 1 ≤ n → n ≤ 64 → EventFits n e → NotSaid e
    → read_record n (front ++ (record_octets e ++ rest)) (length front) ≡ Good e (length front + record_length)
unfolding record_octets
read_after_write n e front rest one few fits unsaid =
    let r : List ℕ = record_octets e in
    let s : List ℕ = front ++ (r ++ rest) in
    let long : length r ≡ record_length = length_octets record_length (packed (event_fields e)) in
    let here : take record_length (drop (length front) s) ≡ r = ap (take record_length) (drop_at front (r ++ rest) (length front) refl) ∙ take_at r rest record_length long in
    let fields : event_fields e ≡ fields_at s (length front) = sym (ap fields_of here ∙ fields_back (event_fields e) (fields_within n e few fits)) in
    let whole : length front + record_length ≤ length s = rw (length-append front (r ++ rest), length-append r rest, long) (omega arith) in
    sym (read_event n s (length front) whole (event_fields e) fields 0 (sym (fields_pass n e one fits)) e refl (sym (event_again e unsaid)))

-- ---- read, then written

pub write_after_read : (n : ℕ) (s : List ℕ) (at : ℕ) (e : Event) (next : ℕ) → Octets s → read_record n s at ≡ Good e next → record_octets e ≡ take record_length (drop at s)
unfolding record_octets
write_after_read n s at e next o q =
    let r : List ℕ = take record_length (drop at s) in
    let f : Fields = fields_of r in
    let h = found n s at e next q in
    let long : length r ≡ record_length = length_part s at record_length h.whole in
    let or : Octets r = octets_take record_length (drop at s) (octets_drop at s o) in
    let again : event_fields e ≡ f = ap event_fields (sym h.event_is) ∙ fields_again n f (passes n f h.passed) (within r) in
    let whole : packed f ≡ number r = packed_number r or (omega arith) ∙ ap number (take_all record_length r (omega arith)) in
    ap (λ (g : Fields). octets record_length (packed g)) again
    ∙ ap (octets record_length) whole
    ∙ ap (λ (k : ℕ). octets k (number r)) (sym long)
    ∙ octets_number r or

-- and its event is one that a record can hold
pub read_fits : (n : ℕ) (s : List ℕ) (at : ℕ) (e : Event) (next : ℕ) → read_record n s at ≡ Good e next → EventFits n e
read_fits n s at e next q =
    let h = found n s at e next q in
    rw (← h.event_is) (event_fits n (fields_at s at) (passes n (fields_at s at) h.passed) (within (take record_length (drop at s))))
