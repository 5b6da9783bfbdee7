-- Laws of a record's fields: side by side they are the number of its octets. Assumes nothing.
use mathlib.Core.Path.{◌≡◌, sym, ap, ◌∙◌}
use mathlib.Core.List.{List}
use Prim.Native.Nat.{ℕ, ◌+◌, ◌*◌, ◌/◌, ◌%◌, ◌^◌, ◌<◌, ◌≤◌}
use native.Mathlib.Omega.{arith}
use lib.ListN.{length}
use Rattle.codec.specs.Octets.{Octets, number_at}
use Rattle.codec.specs.Bits.{bits}
use Rattle.codec.proofs.Laws.Bits.{bits_below, bits_join, bits_octets}
use Rattle.capture.specs.Record.{record_length, fields_of, packed}
use Rattle.capture.specs.declared.record.Fields.{Fields}

-- the fields side by side are the number of the octets
pub packed_number : (r : List ℕ) → Octets r → record_length ≤ length r → packed (fields_of r) ≡ number_at r 0 record_length
unfolding packed fields_of
packed_number r o h =
    sym
    (sym (bits_octets r 0 record_length o h)
    ∙ bits_join r 0 37 3
    ∙ ap (λ (k : ℕ). k * 2 ^ 3 + bits r 37 3)
    (bits_join r 0 26 11
    ∙ ap (λ (k : ℕ). k * 2 ^ 11 + bits r 26 11)
    (bits_join r 0 23 3
    ∙ ap (λ (k : ℕ). k * 2 ^ 3 + bits r 23 3)
    (bits_join r 0 15 8
    ∙ ap (λ (k : ℕ). k * 2 ^ 8 + bits r 15 8)
    (bits_join r 0 9 6
    ∙ ap (λ (k : ℕ). k * 2 ^ 6 + bits r 9 6) (bits_join r 0 3 6))))))

-- each field within its bits
pub record Within (f : Fields) : Type 0 where
  pub kind : f.kind < 2 ^ 3
  pub station : f.station < 2 ^ 6
  pub destination : f.destination < 2 ^ 6
  pub priority : f.priority < 2 ^ 8
  pub channel : f.channel < 2 ^ 3
  pub length : f.length < 2 ^ 11
  pub zeros : f.zeros < 2 ^ 3

pub within : (r : List ℕ) → Within (fields_of r)
unfolding fields_of
within r =
    record {
      kind = bits_below r 0 3;
      station = bits_below r 3 6;
      destination = bits_below r 9 6;
      priority = bits_below r 15 8;
      channel = bits_below r 23 3;
      length = bits_below r 26 11;
      zeros = bits_below r 37 3;
    }

-- the fields of a number
abbrev pub unpacked : ℕ → Fields
unpacked v =
    record {
      kind = v / 137438953472;
      station = v / 2147483648 % 64;
      destination = v / 33554432 % 64;
      priority = v / 131072 % 256;
      channel = v / 16384 % 8;
      length = v / 8 % 2048;
      zeros = v % 8;
    }

pub unpacked_packed : (f : Fields) → Within f → unpacked (packed f) ≡ f
unfolding packed
unpacked_packed f w =
    let kind : packed f / 137438953472 ≡ f.kind = omega (arith, w.kind, w.station, w.destination, w.priority, w.channel, w.length, w.zeros) in
    let station : packed f / 2147483648 % 64 ≡ f.station = omega (arith, w.kind, w.station, w.destination, w.priority, w.channel, w.length, w.zeros) in
    let destination : packed f / 33554432 % 64 ≡ f.destination = omega (arith, w.kind, w.station, w.destination, w.priority, w.channel, w.length, w.zeros) in
    let priority : packed f / 131072 % 256 ≡ f.priority = omega (arith, w.kind, w.station, w.destination, w.priority, w.channel, w.length, w.zeros) in
    let channel : packed f / 16384 % 8 ≡ f.channel = omega (arith, w.kind, w.station, w.destination, w.priority, w.channel, w.length, w.zeros) in
    let length : packed f / 8 % 2048 ≡ f.length = omega (arith, w.kind, w.station, w.destination, w.priority, w.channel, w.length, w.zeros) in
    let zeros : packed f % 8 ≡ f.zeros = omega (arith, w.kind, w.station, w.destination, w.priority, w.channel, w.length, w.zeros) in
    λ i. record { kind = kind i; station = station i; destination = destination i; priority = priority i; channel = channel i; length = length i; zeros = zeros i }

-- so the fields of a record are those of its number
pub fields_number : (r : List ℕ) → Octets r → record_length ≤ length r → unpacked (number_at r 0 record_length) ≡ fields_of r
fields_number r o h = ap unpacked (sym (packed_number r o h)) ∙ unpacked_packed (fields_of r) (within r)
