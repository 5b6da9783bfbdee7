-- What `rtep_write` writes of eight numbers `rtep_read` reads, against the same ring, as these numbers. Assumes nothing.
use mathlib.Core.Path.{◌≡◌, refl, sym, ap, ◌∙◌}
use mathlib.Core.Bool.{Bool, true, false, cond}
use mathlib.Core.List.{List, [], ◌∷◌}
use Prim.Native.Nat.{ℕ}
use native.Mathlib.Omega.{arith}
use lib.Dec.{ltb}
use lib.ListN.{length, take, get_or}
use Rattle.codec.specs.Order.{first_of}
use Rattle.codec.proofs.Laws.Octets.{laid_start}
use Rattle.codec.proofs.Laws.Order.{none_holds}
use Rattle.packet_codec.specs.declared.packet.Packet.{Packet}
use Rattle.packet_codec.specs.declared.fields.Looked.TheVariants.{Sound}
use Rattle.packet_codec.specs.declared.reading.Read.{Read}
use Rattle.packet_codec.specs.declared.reading.Read.TheVariants.{Good}
use Rattle.packet_codec.specs.Packet.{information_length, information_in, packet_octets, write_tests, write_refusal, is_bad, Fit, read_packet, read_number}
use Rattle.packet_codec.proofs.Laws.Packet.{sound_of}
use Rattle.packet_codec.proofs.Theorems.ReadWrite as packets
use Rattle.std.specs.Prelude.{Option, None, Some}
use Rattle.rtep.specs.Told.{read_told, ReadTold, made_of, made_refusal, WriteTold}
use Rattle.rtep_theorems.specs.Numbers.{written, information_of}
use Rattle.rtep_theorems.proofs.Laws.Values.{Numbered, numbered, length_told, length_packet}
use Rattle.rtep_theorems.specs.RoundTrip.{ReadBack}

-- ---- what a write that gives 0 says

nothing_refused : (ring info out told out' told' : List ℕ) → WriteTold ring None info out told 0 out' told' → ⊥
unfolding made_refusal
nothing_refused ring info out told out' told' w = go (ltb (length out) 1500) w.answer
  where
    go : (b : Bool) → ◌≡◌ {A = ℕ} 0 (cond b 9 12) → ⊥
    go true e = omega arith
    go false e = omega arith

write_fit : (ring : List ℕ) (p : Packet) (info out told out' told' : List ℕ) → WriteTold ring (Some p) info out told 0 out' told' → Fit ring p info
unfolding made_refusal write_refusal
write_fit ring p info out told out' told' w =
    let ts : List (Bool × ℕ) = (ltb (length out) 1500, 9) ∷ (is_bad (first_of Sound (write_tests ring p (length info))), 12) ∷ [] in
    let n = none_holds 0 ts ((λ z. omega (arith, z)), ((λ z. omega (arith, z)), tt)) (sym w.answer) in
    sound_of _ n.1.0

-- ---- the theorem

pub read_after_write : (ring values information out sizes out' sizes' : List ℕ) → length values ≡ 8
    → WriteTold ring (made_of values) information out sizes 0 out' sizes'
    → (told : List ℕ) (r : ℕ) (told' : List ℕ) → ReadTold ring (written out' sizes') told r told'
    → ReadBack values information (written out' sizes') r told'
read_after_write ring values info out sizes out' sizes' long w told r told' read = go (made_of values) refl w
  where
    go : (m : Option Packet) → made_of values ≡ m → WriteTold ring m info out sizes 0 out' sizes' → ReadBack values info (written out' sizes') r told'
    go None e d = absurd (nothing_refused ring info out sizes out' sizes' d)
    go (Some p) e d =
        let fit : Fit ring p info = write_fit ring p info out sizes out' sizes' d in
        let k : Numbered values p = numbered values p long e in
        let s : List ℕ = packet_octets p info in
        let back = packets.read_after_write ring p info k.typed fit in
        let here : written out' sizes' ≡ s =
        ap (λ (l : List ℕ). take (get_or l 0 0) out') d.told_is
        ∙ ap (λ (n : ℕ). take n out') (sym (length_packet ring p info fit))
        ∙ laid_start out out' s d.out_is in
        let reads : read_packet ring (written out' sizes') ≡ Good p = ap (read_packet ring) here ∙ back.packet in
        let last : get_or values 7 0 ≡ information_length p = ap (λ (l : List ℕ). get_or l 7 0) (sym k.values) ∙ length_told p in
        record {
          answer = read.answer ∙ ap read_number reads;
          numbers = read.told_is ∙ ap (λ (x : Read). read_told x told) reads ∙ k.values;
          information_is = ap (λ (l : List ℕ). information_of l values) here ∙ ap (information_in s) last ∙ back.part;
        }
