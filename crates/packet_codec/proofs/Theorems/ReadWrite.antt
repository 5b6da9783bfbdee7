-- Reading after writing: for every packet fit to write, its octets read as the packet, with its information in its place. Assumes nothing.
use mathlib.Core.Path.{◌≡◌, refl, sym, ap, ◌∙◌}
use mathlib.Core.Bool.{Bool, true, false, cond, not}
use mathlib.Core.List.{List, [], ◌∷◌, ◌++◌}
use Prim.Native.Nat.{ℕ, zero, suc, ◌+◌, ◌-◌, ◌/◌, ◌%◌, ◌^◌, ◌<◌, ◌≤◌, max}
use native.Mathlib.Omega.{arith}
use borrow.Author.Tests.{le-leb, eq-eqb, ltb-true, eqb-true, not-false, ltb-false}
use lib.Dec.{ltb, eqb}
use lib.ListN.{length, get_or, length-append}
use lib.Seq.{take_at, get_or-drop, get_or-append-add}
use Rattle.codec.specs.Order.{first_of}
use Rattle.codec.specs.Octets.{octets, number, zeros}
use Rattle.packet_codec.specs.declared.packet.Short.{Short}
use Rattle.packet_codec.specs.declared.packet.Head.{Head}
use Rattle.packet_codec.specs.declared.packet.Packet.{Packet}
use Rattle.packet_codec.specs.declared.packet.Packet.TheVariants.{Token, Transmit, Information}
use Rattle.packet_codec.specs.declared.fields.Looked.TheVariants.{Sound}
use Rattle.packet_codec.specs.declared.reading.Read.TheVariants.{Good}
use Rattle.packet_codec.specs.Packet.{short_of, head_of, packet_of, packet_octets, short_octets, head_octets, information_octets, information_in, information_part, information_length, identifier, pad_from, length_from, size, belongs, failing_bad, field_tests, pad_tests, length_tests, rest_tests, write_tests, read_tests, Fit, read_packet}
use Rattle.packet_codec.specs.Typed.{Typed, TypedPacket}
use Rattle.packet_codec.specs.RoundTrip.{ReadsAs}
use Rattle.codec.proofs.Laws.Octets.{back, length_zeros}
use Rattle.codec.proofs.Laws.Order.{NoneHolds, none_holds, none_append, none_split, first_passed}
use Rattle.packet_codec.proofs.Laws.Packet.{write_apart, pads_none, fit_length, read_fields}

-- an address that belongs has 48 bits
belongs_fits : (ring : List ℕ) (a : ℕ) → belongs ring a ≡ true → a < 2 ^ 48
unfolding belongs
belongs_fits ring a e = go (ltb a (2 ^ 48)) refl e
  where
    go : (b : Bool) → ltb a (2 ^ 48) ≡ b → cond b (Rattle.codec.specs.Ring.is_member ring a) false ≡ true → a < 2 ^ 48
    go true h e' = ltb-true _ _ h
    go false h e' = absurd (mathlib.Core.Bool.false≢true e')

failing_fits : (ring : List ℕ) (a : ℕ) → failing_bad ring a ≡ false → a < 2 ^ 48
unfolding failing_bad
failing_fits ring a e = go (eqb a 0) refl e
  where
    go : (b : Bool) → eqb a 0 ≡ b → cond b false (not (belongs ring a)) ≡ false → a < 2 ^ 48
    go true h e' = omega (arith, eqb-true a 0 h)
    go false h e' = belongs_fits ring a (not-false _ e')

-- ---- short packets

-- the fields come back
short_back : (identifier : ℕ) (p : Short) → Typed p.priority p.number → p.master < 2 ^ 48 → p.failing < 2 ^ 48 → p.named < 2 ^ 48
    → short_of (short_octets identifier p) ≡ p
short_back identifier p t m f n =
    let e1 : p.priority / 1 % 256 ≡ p.priority = omega (arith, t.priority_fits) in
    let e2 : number (octets 2 p.number) ≡ p.number = back 2 p.number t.number_fits in
    let e3 : number (octets 6 p.master) ≡ p.master = back 6 p.master m in
    let e4 : number (octets 6 p.failing) ≡ p.failing = back 6 p.failing f in
    let e5 : number (octets 6 p.named) ≡ p.named = back 6 p.named n in
    λ i. record { priority = e1 i; number = e2 i; master = e3 i; failing = e4 i; named = e5 i }

-- ---- what is fit to write

-- no field's test holds
fields_pass : (ring : List ℕ) (p : Packet) (info : List ℕ) → Fit ring p info → NoneHolds (field_tests ring p)
fields_pass ring p info e =
    (none_split (field_tests ring p) (length_tests (length info) (information_length p) (length_from p))
    (none_holds Sound (write_tests ring p (length info)) (write_apart ring p (length info)) e)).0

-- octets whose fields make a packet that is fit, with its pad and its length, read as that packet
passes : (ring s : List ℕ) (p : Packet) → NoneHolds (field_tests ring p) → packet_of s ≡ p → 1 ≤ identifier s → identifier s ≤ 3 → length s ≡ size p → size p ≤ 1500
    → ((i : ℕ) → get_or s (pad_from p + i) 0 ≡ 0) → read_packet ring s ≡ Good p
passes ring s p fields e low high long most pad =
    let rest : NoneHolds (rest_tests s p) =
    none_append (pad_tests s (pad_from p) (46 - pad_from p)) (length_tests (length s) (size p) (length_from p)) (pads_none s (pad_from p) (46 - pad_from p) pad)
    (ap not (eq-eqb (length s) (size p) long), tt) in
    let sound : first_of Sound (read_tests ring s p) ≡ Sound = first_passed Sound (read_tests ring s p) (none_append (field_tests ring p) (rest_tests s p) fields rest) in
    read_fields ring s Sound (omega arith) (omega arith) low high (sym (ap (λ (q : Packet). first_of Sound (read_tests ring s q)) e ∙ sound))
    ∙ ap Good e

-- ---- each kind

no_octets : (info : List ℕ) → length info ≡ 0 → info ≡ []
no_octets [] e = refl
no_octets (x ∷ xs) e = absurd (omega arith)

all_zero : (k i : ℕ) → get_or (zeros k) i 0 ≡ 0
all_zero zero i = refl
all_zero (suc k) zero = refl
all_zero (suc k) (suc i) = all_zero k i

short_pad : (identifier : ℕ) (p : Short) (i : ℕ) → get_or (short_octets identifier p) (22 + i) 0 ≡ 0
short_pad identifier p i = sym (get_or-drop 22 (short_octets identifier p) i 0) ∙ all_zero 24 i

read_token : (ring : List ℕ) (p : Short) (info : List ℕ) → Typed p.priority p.number → Fit ring (Token p) info → read_packet ring (short_octets 1 p) ≡ Good (Token p)
unfolding packet_of
read_token ring p info t e =
    let f = fields_pass ring (Token p) info e in
    let back_again : short_of (short_octets 1 p) ≡ p =
    short_back 1 p t (belongs_fits ring p.master (not-false _ f.0)) (failing_fits ring p.failing f.1.0) (belongs_fits ring p.named (not-false _ f.1.1.0)) in
    passes ring (short_octets 1 p) (Token p) f (ap Token back_again) (omega arith) (omega arith) refl (omega arith) (short_pad 1 p)

read_transmit : (ring : List ℕ) (p : Short) (info : List ℕ) → Typed p.priority p.number → Fit ring (Transmit p) info → read_packet ring (short_octets 2 p) ≡ Good (Transmit p)
unfolding packet_of
read_transmit ring p info t e =
    let f = fields_pass ring (Transmit p) info e in
    let none : p.failing < 2 ^ 48 = omega (arith, eqb-true p.failing 0 (not-false _ f.1.1.0)) in
    let back_again : short_of (short_octets 2 p) ≡ p =
    short_back 2 p t (belongs_fits ring p.master (not-false _ f.1.0)) none (belongs_fits ring p.named (not-false _ f.1.1.1.0)) in
    passes ring (short_octets 2 p) (Transmit p) f (ap Transmit back_again) (omega arith) (omega arith) refl (omega arith) (short_pad 2 p)

module _ (ring : List ℕ) (h : Head) (info : List ℕ) (t : Typed h.priority h.number) (e : Fit ring (Information h) info) where
  long : length info ≡ h.length
  long = (fit_length ring (Information h) (length info) e).0

  most : h.length ≤ 1492
  most = (fit_length ring (Information h) (length info) e).1

  s : List ℕ
  s = information_octets h info

  -- the octets before the pad
  front : List ℕ
  front = head_octets h ++ info

  length_front : length front ≡ 8 + h.length
  unfolding front
  length_front = length-append (head_octets h) info ∙ ap (λ (n : ℕ). 8 + n) long

  split : s ≡ front ++ zeros (46 - (8 + length info))
  unfolding s front
  split = refl

  length_s : length s ≡ max 46 (8 + h.length)
  length_s =
      ap length split
      ∙ length-append front (zeros (46 - (8 + length info)))
      ∙ rw (length_front, length_zeros (46 - (8 + length info)), long) (omega arith)

  information_pad : (i : ℕ) → get_or s (8 + h.length + i) 0 ≡ 0
  information_pad i =
      ap (λ (l : List ℕ). get_or l (8 + h.length + i) 0) split
      ∙ ap (λ (n : ℕ). get_or (front ++ zeros (46 - (8 + length info))) (n + i) 0) (sym length_front)
      ∙ get_or-append-add front (zeros (46 - (8 + length info))) i 0
      ∙ all_zero (46 - (8 + length info)) i

  head_back : head_of s ≡ h
  unfolding s
  head_back =
      let f = fields_pass ring (Information h) info e in
      let c : h.channel < 65536 = omega (arith, ltb-false 7 h.channel f.1.0) in
      let e1 : h.priority / 1 % 256 ≡ h.priority = omega (arith, t.priority_fits) in
      let e2 : number (octets 2 h.number) ≡ h.number = back 2 h.number t.number_fits in
      let e3 : number (octets 2 h.channel) ≡ h.channel = back 2 h.channel c in
      let e4 : number (octets 2 h.length) ≡ h.length = back 2 h.length (omega (arith, most)) in
      λ i. record { priority = e1 i; number = e2 i; channel = e3 i; length = e4 i }

  information_of : packet_of s ≡ Information h
  unfolding packet_of s
  information_of = unfold s in ap Information head_back

  read_information : read_packet ring s ≡ Good (Information h)
  read_information =
      let id : identifier s ≡ 3 = unfold s in refl in
      passes ring s (Information h) (fields_pass ring (Information h) info e) information_of (omega (arith, id)) (omega (arith, id)) length_s (omega (arith, most)) information_pad

  part_back : information_part (Information h) s ≡ info
  unfolding information_in s
  part_back =
      let room : 8 + h.length ≤ length s = omega (arith, length_s) in
      rw (le-leb _ _ room) (take_at info (zeros (46 - (8 + length info))) h.length long)

-- ---- the theorem

pub read_after_write : (ring : List ℕ) (p : Packet) (info : List ℕ) → TypedPacket p → Fit ring p info → ReadsAs ring p info (packet_octets p info)
unfolding packet_octets information_in
read_after_write ring (Token p) info t e =
    record { packet = read_token ring p info t e; part = sym (no_octets info (fit_length ring (Token p) (length info) e).0) }
read_after_write ring (Transmit p) info t e =
    record { packet = read_transmit ring p info t e; part = sym (no_octets info (fit_length ring (Transmit p) (length info) e).0) }
read_after_write ring (Information h) info t e =
    unfold s in record { packet = read_information ring h info t e; part = part_back ring h info t e }
