-- The ring of a held record is that of the file it was made of. Assumes nothing.
use mathlib.Core.Path.{◌≡◌, refl, sym, ap, subst, ◌∙◌}
use mathlib.Core.Bool.{Bool, true, false, cond}
use mathlib.Core.List.{List}
use Prim.Native.Nat.{ℕ}
use lib.Dec.{eqb}
use Rattle.codec.specs.Ring.{read_ring}
use Rattle.packet_codec.specs.Packet.{kept}
use Rattle.station.specs.declared.station.Answer.{Answer}
use Rattle.records.specs.Record.{read_record}
use Rattle.driver_calls.specs.Calls.{members_of, ring_of, ring_in, record_with, start_answer, frame_answer, timer_answer, queue_answer, take_answer}
use Rattle.driver_theorems.proofs.Theorems.Held.{held_sure, made_reads, anew_reads, start_sure, frame_sure, timer_sure, queue_sure, take_sure}
use Rattle.driver_theorems.specs.Held.{Keeps}
use Rattle.driver_theorems.specs.Held.{Held, by_make, by_start, by_frame, by_timer, by_queue, by_take, Sure}
use Rattle.wire_theorems.specs.Wire.{GoodAddresses, made_of}
use Rattle.wire_theorems.proofs.Laws.Addresses.{good_addresses}

-- what a call writes has the same ring
ring_after : (rec rec' : List ℕ) (r : ℕ) (a : Answer) → Sure rec → Keeps rec a → rec' ≡ kept r rec (record_with rec a.station)
    → (read_record rec').ring ≡ (read_record rec).ring
ring_after rec rec' r a h k e = ap (λ (x : List ℕ). (read_record x).ring) e ∙ go (eqb r 0)
  where
    go : (b : Bool) → (read_record (cond b (record_with rec a.station) rec)).ring ≡ (read_record rec).ring
    go true = (anew_reads rec a.station h k.0 k.1).ring
    go false = refl

pub ring_made : {rec : List ℕ} (h : Held rec) → (read_record rec).ring ≡ (read_ring (made_of h)).ring
ring_made (by_make rec file own rec' m) = (made_reads rec file own rec' m).reads.ring
ring_made (by_start rec out told r rec' out' told' p m) =
    let h = held_sure p in
    ring_after rec rec' r (start_answer rec) h (start_sure rec h) m.record_is ∙ ring_made p
ring_made (by_frame rec store from to packet out told r rec' store' out' told' p o m) =
    let h = held_sure p in
    ring_after rec rec' r (frame_answer rec from to packet) h (frame_sure rec h from to packet o) m.sending.record_is ∙ ring_made p
ring_made (by_timer rec store out told r rec' out' told' p m) =
    let h = held_sure p in
    ring_after rec rec' r (timer_answer rec) h (timer_sure rec h) m.record_is ∙ ring_made p
ring_made (by_queue rec store q payload r rec' store' p m) =
    let h = held_sure p in
    ring_after rec rec' r (queue_answer rec q) h (queue_sure rec h q) m.record_is ∙ ring_made p
ring_made (by_take rec store channel room told r rec' room' told' p m) =
    let h = held_sure p in
    ring_after rec rec' r (take_answer rec channel room) h (take_sure rec h channel room) m.record_is ∙ ring_made p

file_good : {rec : List ℕ} (h : Held rec) → (read_ring (made_of h)).number ≡ 0
file_good (by_make rec file own rec' m) = (made_reads rec file own rec' m).good_file
file_good (by_start rec out told r rec' out' told' p m) = file_good p
file_good (by_frame rec store from to packet out told r rec' store' out' told' p o m) = file_good p
file_good (by_timer rec store out told r rec' out' told' p m) = file_good p
file_good (by_queue rec store q payload r rec' store' p m) = file_good p
file_good (by_take rec store channel room told r rec' room' told' p m) = file_good p

pub ring_is : {rec : List ℕ} (h : Held rec) → ring_in rec ≡ ring_of (made_of h)
ring_is h = ap members_of (ring_made h)

-- its addresses are a good ring's
pub held_addresses : {rec : List ℕ} → Held rec → GoodAddresses (ring_in rec)
held_addresses h = subst GoodAddresses (sym (ring_is h)) (good_addresses (made_of h) (file_good h))

-- two records that were made of the same file have the same ring
pub same_ring : {rec other : List ℕ} (h : Held rec) (k : Held other) → made_of h ≡ made_of k → ring_in rec ≡ ring_in other
same_ring h k e = ring_is h ∙ ap ring_of e ∙ sym (ring_is k)
