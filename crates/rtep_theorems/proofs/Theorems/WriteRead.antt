-- The numbers that `rtep_read` tells of a packet, with the information at its place, `rtep_write` writes as the same octets, against
-- the same ring. Assumes nothing.
use mathlib.Core.Path.{◌≡◌, sym, ap, ◌∙◌, subst}
use mathlib.Core.List.{List, [], ◌∷◌}
use Prim.Native.Nat.{ℕ, ◌≤◌}
use borrow.Author.Tests.{le-ltb}
use lib.Dec.{ltb}
use lib.ListN.{length, take, get_or}
use Rattle.codec.specs.Order.{first_of}
use Rattle.codec.specs.Octets.{Octets, laid}
use Rattle.codec.proofs.Laws.Octets.{laid_start}
use Rattle.codec.proofs.Laws.Order.{first_passed}
use Rattle.packet_codec.specs.declared.packet.Packet.{Packet}
use Rattle.packet_codec.specs.declared.fields.Looked.TheVariants.{Sound}
use Rattle.packet_codec.specs.declared.reading.Read.{Read}
use Rattle.packet_codec.specs.declared.reading.Read.TheVariants.{Good}
use Rattle.packet_codec.specs.Packet.{longest_packet, size, wire_octets, information_in, information_part, packet_of, packet_octets, write_tests, write_refusal, is_bad, Fit, read_packet, kept}
use Rattle.packet_codec.proofs.Laws.Packet.{read_good}
use Rattle.packet_codec.proofs.Theorems.WriteRead as packets
use Rattle.std.specs.Prelude.{Option, Some}
use Rattle.rtep.specs.Told.{values_of, read_told, ReadTold, made_of, made_refusal, WriteTold}
use Rattle.rtep_theorems.specs.Numbers.{information_of}
use Rattle.rtep_theorems.proofs.Laws.Values.{made_again, length_told, length_packet}
use Rattle.rtep_theorems.specs.RoundTrip.{WriteBack}

-- a packet that is fit is not refused
not_refused : (ring : List ℕ) (p : Packet) (info : List ℕ) (room : ℕ) → Fit ring p info → longest_packet ≤ room → made_refusal ring (Some p) (length info) room ≡ 0
unfolding made_refusal write_refusal
not_refused ring p info room fit h =
    first_passed 0 ((ltb room 1500, 9) ∷ (is_bad (first_of Sound (write_tests ring p (length info))), 12) ∷ []) (le-ltb _ _ h, (ap is_bad fit, tt))

-- ---- the theorem

pub write_after_read : (ring packet told told' : List ℕ) → Octets packet → ReadTold ring packet told 0 told'
    → (out sizes : List ℕ) (r : ℕ) (out' sizes' : List ℕ) → longest_packet ≤ length out
    → WriteTold ring (made_of told') (information_of packet told') out sizes r out' sizes' → WriteBack packet out r out' sizes'
write_after_read ring packet told told' o read out sizes r out' sizes' room w =
    let p : Packet = packet_of packet in
    let info : List ℕ = information_part p packet in
    let good : read_packet ring packet ≡ Good p = read_good ring packet (sym read.answer) in
    let a = packets.write_after_read ring packet p o good in
    let values : told' ≡ values_of p = read.told_is ∙ ap (λ (x : Read). read_told x told) good in
    let made : made_of told' ≡ Some p = ap made_of values ∙ made_again ring p info a.typed a.fit in
    let part : information_of packet told' ≡ info = ap (information_in packet) (ap (λ (l : List ℕ). get_or l 7 0) values ∙ length_told p) in
    let d : WriteTold ring (Some p) info out sizes r out' sizes' =
    subst (λ (m : Option Packet). WriteTold ring m info out sizes r out' sizes') made
    (subst (λ (l : List ℕ). WriteTold ring (made_of told') l out sizes r out' sizes') part w) in
    let zero : r ≡ 0 = d.answer ∙ not_refused ring p info (length out) a.fit room in
    let all : out' ≡ laid out 0 packet =
    d.out_is ∙ ap (λ (n : ℕ). kept n out (laid out 0 (packet_octets p info))) zero ∙ ap (laid out 0) (sym a.again) in
    let sized : sizes' ≡ size p ∷ wire_octets p ∷ [] = d.told_is ∙ ap (λ (n : ℕ). kept n sizes (size p ∷ wire_octets p ∷ [])) zero in
    let long : length packet ≡ size p = ap length a.again ∙ length_packet ring p info a.fit in
    record {
      answer = zero;
      octets = all;
      written_is = ap (λ (l : List ℕ). take (get_or l 0 0) out') sized ∙ ap (λ (n : ℕ). take n out') (sym long) ∙ laid_start out out' packet all;
    }
