-- The frame of a packet that was read is fit for the ring, and its numbers are small. Assumes nothing.
use mathlib.Core.Path.{◌≡◌, refl}
use mathlib.Core.Bool.{Bool, true, false, not, cond, false≢true}
use mathlib.Core.List.{List}
use Prim.Native.Nat.{ℕ, ◌<◌, ◌≤◌, ◌%◌}
use native.Mathlib.Omega.{arith}
use lib.Dec.{ltb, eqb}
use lib.ListN.{length}
use borrow.Author.Tests.{ltb-true, ltb-false, lt-leb, lt-ltb, le-leb, le-ltb, not-false}
use Rattle.codec.specs.Octets.{Octets}
use Rattle.codec.specs.Ring.{position, is_member}
use Rattle.packet_codec.specs.Packet.{belongs, failing_bad, field_tests, write_tests, length_tests, information_length, information_part, length_from, read_packet}
use Rattle.packet_codec.specs.declared.packet.Packet.{Packet}
use Rattle.packet_codec.specs.declared.packet.Packet.TheVariants.{Token as TokenOf, Transmit as TransmitOf, Information as InformationOf}
use Rattle.packet_codec.specs.declared.fields.Looked.TheVariants.{Sound}
use Rattle.packet_codec.specs.declared.reading.Read.TheVariants.{Good}
use Rattle.packet_codec.specs.Typed.{TypedPacket}
use Rattle.codec.proofs.Laws.Order.{NoneHolds, none_holds, none_split}
use Rattle.packet_codec.proofs.Laws.Packet.{write_apart}
use Rattle.packet_codec.proofs.Theorems.WriteRead.{write_after_read}
use Rattle.parts.specs.Choose.{pick}
use Rattle.parts.specs.Frames.{fit, member_or_nobody}
use Rattle.std.specs.Prelude.{None, Some}
use Rattle.station_theorems.specs.Small.{SmallFrame}
use Rattle.driver_buffers.specs.Packets.{whom_at, frame_of}

-- ---- a member's place is in the ring

place_inside : (ring : List ℕ) (a : ℕ) → not (belongs ring a) ≡ false → position ring a < length ring
unfolding belongs
place_inside ring a e = go (ltb a _) (not-false _ e)
  where
    go : (b : Bool) → cond b (is_member ring a) false ≡ true → position ring a < length ring
    go true t = ltb-true _ _ t
    go false t = absurd (false≢true t)

failing_inside : (ring : List ℕ) (a : ℕ) → failing_bad ring a ≡ false → member_or_nobody (length ring) (whom_at ring a) ≡ true
unfolding failing_bad whom_at pick
failing_inside ring a e = go (eqb a 0) e
  where
    go : (b : Bool) → cond b false (not (belongs ring a)) ≡ false → member_or_nobody (length ring) (pick b None (Some (position ring a))) ≡ true
    go true t = refl
    go false t = lt-ltb _ _ (place_inside ring a t)

-- ---- the frame

both : {b c : Bool} → b ≡ false → c ≡ true → pick b false c ≡ true
unfolding pick
both p q = rw p q

tests_passed : (ring : List ℕ) (p : Packet) → NoneHolds (field_tests ring p)
    → fit (length ring) (frame_of ring p) ≡ true
unfolding frame_of
tests_passed ring (TokenOf p) t =
    both (lt-leb _ _ (place_inside ring p.master t.0))
    (both (lt-leb _ _ (place_inside ring p.named t.1.1.0)) (failing_inside ring p.failing t.1.0))
tests_passed ring (TransmitOf p) t =
    both t.0
    (both (lt-leb _ _ (place_inside ring p.master t.1.0)) (lt-ltb _ _ (place_inside ring p.named t.1.1.1.0)))
tests_passed ring (InformationOf h) t =
    let channel : h.channel ≤ 7 = ltb-false _ _ t.1.0 in
    both t.0 (both (le-ltb 7 (h.channel % 256) (omega (arith, channel))) (le-leb h.length 1492 (ltb-false _ _ t.1.1.0)))

small_numbers : (ring : List ℕ) (p : Packet) → TypedPacket p → SmallFrame (frame_of ring p)
unfolding frame_of
small_numbers ring (TokenOf p) t = record { number = t.number_fits; priority = t.priority_fits }
small_numbers ring (TransmitOf p) t = record { number = t.number_fits; priority = t.priority_fits }
small_numbers ring (InformationOf h) t = record { number = t.number_fits; priority = t.priority_fits }

pub record HeardFit (ring : List ℕ) (p : Packet) : Type 0 where
  pub fits : fit (length ring) (frame_of ring p) ≡ true
  pub small : SmallFrame (frame_of ring p)

pub heard_fit : (ring packet : List ℕ) (p : Packet) → Octets packet → read_packet ring packet ≡ Good p → HeardFit ring p
heard_fit ring packet p o e =
    let w = write_after_read ring packet p o e in
    let n : ℕ = length (information_part p packet) in
    let t = none_split (field_tests ring p) (length_tests n (information_length p) (length_from p)) (none_holds Sound (write_tests ring p n) (write_apart ring p n) w.fit) in
    record { fits = tests_passed ring p t.0; small = small_numbers ring p w.typed }
