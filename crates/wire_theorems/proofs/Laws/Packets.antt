-- Laws of a frame and its packet: what is fit over positions is fit over addresses, and both ways about. Assumes nothing.
use mathlib.Core.Path.{◌≡◌, refl, ap}
use mathlib.Core.Bool.{true, false, not}
use mathlib.Core.List.{List, ◌++◌}
use Prim.Native.Nat.{ℕ, ◌+◌, ◌-◌, ◌%◌, ◌<◌, max}
use native.Mathlib.Omega.{arith}
use borrow.Author.Tests.{lt-ltb, le-ltb, eq-eqb, ne_eqb}
use lib.ListN.{length, length-append}
use Rattle.codec.specs.Octets.{zeros}
use Rattle.codec.specs.Ring.{position}
use Rattle.codec.proofs.Laws.Octets.{length_zeros}
use Rattle.codec.proofs.Laws.Order.{NoneHolds, none_append, first_passed}
use Rattle.packet_codec.specs.Packet.{size, packet_octets, head_octets, information_octets, information_length, length_from, belongs, failing_bad, field_tests, length_tests, write_tests, Fit as Writable}
use Rattle.packet_codec.specs.declared.packet.Head.{Head}
use Rattle.packet_codec.specs.declared.packet.Packet.{Packet}
use Rattle.packet_codec.specs.declared.packet.Packet.TheVariants.{Token as TokenOf, Transmit as TransmitOf, Information as InformationOf}
use Rattle.packet_codec.specs.declared.fields.Looked.TheVariants.{Sound}
use Rattle.packet_codec.specs.Typed.{TypedPacket}
use Rattle.parts.specs.Choose.{pick}
use Rattle.std.specs.Prelude.{Option, None, Some}
use Rattle.parts.specs.declared.frame.Frame.{Frame}
use Rattle.parts.specs.declared.frame.Frame.TheVariants.{Token, Transmit, Information}
use Rattle.station_theorems.specs.Small.{SmallFrame}
use Rattle.station_theorems.specs.Awaited.{Fit}
use Rattle.driver_buffers.specs.Packets.{address_of, whom_address, whom_at, packet_of, frame_of}
use Rattle.wire_theorems.specs.Wire.{GoodAddresses, placeless}

module _ (ring : List ℕ) (g : GoodAddresses ring) where
  -- ---- a member's address belongs

  member_belongs : (p : ℕ) → p < length ring → belongs ring (address_of ring p) ≡ true
  unfolding belongs
  member_belongs p h = rw (lt-ltb _ _ (g.wide p h), g.own p h) (lt-ltb p (length ring) h)

  failing_belongs : (w : Option ℕ) → ((p : ℕ) → w ≡ Some p → p < length ring) → failing_bad ring (whom_address ring w) ≡ false
  unfolding failing_bad
  failing_belongs None h = refl
  failing_belongs (Some p) h =
      let m : p < length ring = h p refl in
      rw (ne_eqb (address_of ring p) 0 (g.some p m), member_belongs p m)

  -- ---- fit over positions, so fit over addresses

  fields_pass : (f : Frame) → Fit (length ring) f → NoneHolds (field_tests ring (packet_of ring f))
  unfolding packet_of
  fields_pass (Token t) k = (
    ap not (member_belongs t.master k.master_member),
    (failing_belongs t.failing k.failing_member, (ap not (member_belongs t.named k.named_member), tt)),
  )
  fields_pass (Transmit t) k = (
    ne_eqb t.priority 0 k.some_priority,
    (ap not (member_belongs t.master k.master_member), (refl, (ap not (member_belongs t.named k.named_member), tt))),
  )
  fields_pass (Information i) k =
      (ne_eqb i.priority 0 k.some_priority, (le-ltb 7 i.channel k.channel_fits, (le-ltb 1492 i.length k.length_fits, tt)))

  pub writable : (f : Frame) (info : List ℕ) → Fit (length ring) f → length info ≡ information_length (packet_of ring f) → Writable ring (packet_of ring f) info
  writable f info k e =
      let p : Packet = packet_of ring f in
      first_passed Sound (write_tests ring p (length info))
      (none_append (field_tests ring p) (length_tests (length info) (information_length p) (length_from p)) (fields_pass f k)
      (ap not (eq-eqb (length info) (information_length p) e), tt))

  -- ---- positions again

  whom_again : (w : Option ℕ) → ((p : ℕ) → w ≡ Some p → p < length ring) → whom_at ring (whom_address ring w) ≡ w
  unfolding whom_at pick
  whom_again None h = refl
  whom_again (Some p) h =
      let m : p < length ring = h p refl in
      rw (ne_eqb (address_of ring p) 0 (g.some p m), g.own p m)

  pub frame_again : (f : Frame) → Fit (length ring) f → frame_of ring (packet_of ring f) ≡ placeless f
  unfolding packet_of frame_of
  frame_again (Token t) k =
      let m : position ring (address_of ring t.master) ≡ t.master = g.own t.master k.master_member in
      let w : whom_at ring (whom_address ring t.failing) ≡ t.failing = whom_again t.failing k.failing_member in
      let n : position ring (address_of ring t.named) ≡ t.named = g.own t.named k.named_member in
      λ j. Token (record { number = t.number; priority = t.priority; master = m j; failing = w j; named = n j })
  frame_again (Transmit t) k =
      let m : position ring (address_of ring t.master) ≡ t.master = g.own t.master k.master_member in
      let n : position ring (address_of ring t.named) ≡ t.named = g.own t.named k.named_member in
      λ j. Transmit (record { number = t.number; priority = t.priority; master = m j; named = n j })
  frame_again (Information i) k =
      let c : i.channel % 256 ≡ i.channel = omega (arith, k.channel_fits) in
      λ j. Information (record { number = i.number; priority = i.priority; channel = c j; length = i.length; place = 0 })

-- ---- numbers within their fields

pub packet_typed : (ring : List ℕ) (f : Frame) → SmallFrame f → TypedPacket (packet_of ring f)
unfolding packet_of
packet_typed ring (Token t) k = record { priority_fits = k.priority; number_fits = k.number }
packet_typed ring (Transmit t) k = record { priority_fits = k.priority; number_fits = k.number }
packet_typed ring (Information i) k = record { priority_fits = k.priority; number_fits = k.number }

-- ---- as many octets as the packet's size

information_sized : (h : Head) (info : List ℕ) → length info ≡ h.length → length (information_octets h info) ≡ max 46 (8 + h.length)
information_sized h info e =
    let pad : List ℕ = zeros (46 - (8 + length info)) in
    let a : length (information_octets h info) ≡ 8 + length (info ++ pad) = length-append (head_octets h) (info ++ pad) in
    let b : length (info ++ pad) ≡ length info + length pad = length-append info pad in
    let c : length pad ≡ 46 - (8 + length info) = length_zeros (46 - (8 + length info)) in
    omega (arith, a, b, c, e)

pub octets_sized : (p : Packet) (info : List ℕ) → length info ≡ information_length p → length (packet_octets p info) ≡ size p
unfolding packet_octets
octets_sized (TokenOf p) info e = refl
octets_sized (TransmitOf p) info e = refl
octets_sized (InformationOf h) info e = information_sized h info e
