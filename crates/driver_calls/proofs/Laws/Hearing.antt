-- Laws of a heard packet: what a station answers, step by step, which part of the packet is the information, and what the call leaves.
-- Assumes nothing.
use mathlib.Core.Path.{◌≡◌, refl, sym, ap, ◌∙◌}
use mathlib.Core.Bool.{Bool, true, false}
use mathlib.Core.List.{List}
use Prim.Native.Nat.{ℕ}
use borrow.Author.Tests.{eq-eqb, ne_eqb}
use lib.Dec.{eqb}
use lib.ListN.{length, take}
use Rattle.codec.specs.Ring.{position}
use Rattle.packet_codec.specs.Packet.{information_in, read_packet, read_number}
use Rattle.packet_codec.specs.declared.packet.Packet.{Packet}
use Rattle.packet_codec.specs.declared.reading.Refusal.{Refusal as Why}
use Rattle.packet_codec.specs.declared.reading.Read.{Read}
use Rattle.packet_codec.specs.declared.reading.Read.TheVariants.{Refused, Good}
use Rattle.parts.specs.Moves.{move_of, runs}
use Rattle.station.specs.Stations.{state_of, answered, moved, unless}
use Rattle.station.specs.Heard.{checks}
use Rattle.parts.specs.declared.list.Message.{Message}
use Rattle.parts.specs.declared.frame.Frame.{Frame}
use Rattle.parts.specs.declared.moves.Event.TheVariants.{Heard}
use Rattle.station.specs.declared.station.Station.{Station}
use Rattle.std.specs.Prelude.{Option, None, Some}
use Rattle.station.specs.declared.station.Answer.{Answer}
use Rattle.parts.specs.Choose.{pick}
use Rattle.parts.proofs.Laws.Choose.{pick_true, pick_false}
use Rattle.station.specs.Deeds.{refused, done_by}
use Rattle.station.specs.Decide.{decided}
use Rattle.station.specs.declared.rules.deeds.Verdict.{Verdict}
use Rattle.station.proofs.Laws.Deeds.{turned_alone}
use Rattle.station.proofs.Laws.Decide.{Decides, frame_so, done_so}
use Rattle.records.proofs.Laws.Load.{Held}
use Rattle.driver_buffers.specs.Places.{received, information_of}
use Rattle.driver_buffers.specs.Packets.{frame_of}
use Rattle.driver_calls.specs.Calls.{ring_in, bad_buffers, Left, heard_then, packet_rule, decided_read, decided_packet, frame_answer, heard_information, Hearing}
use Rattle.driver_calls.proofs.Laws.Calls.{Refusal, refused_by, done, done_number, done_sent, kept_old, not_sent, all_sent}

-- ---- what a packet asks for: the table of moves, the checks of both ends, the reading, what the frame asks for

module _ (s : Station) (ring : List ℕ) (from to : ℕ) (packet : List ℕ) {m : ℕ} (looked : m ≡ move_of (state_of s) Heard) where
  pub packet_stops : (m ≡ runs → ⊥) → refused s.turn m ≡ decided_packet s ring from to packet
  unfolding decided_packet
  packet_stops n = ap (refused s.turn) looked ∙ sym (pick_false _ _ (ne_eqb _ _ (λ e. n (looked ∙ e))))

  module _ (run : m ≡ runs) {f t k : ℕ} (sender : f ≡ position ring from) (addressee : t ≡ position ring to) (checked : k ≡ checks s f t) where
    -- the checks are those of the positions
    checked_at : k ≡ checks s (position ring from) (position ring to)
    checked_at = checked ∙ rw (sender, addressee)

    pub packet_refused : (k ≡ 0 → ⊥) → refused s.turn k ≡ decided_packet s ring from to packet
    unfolding decided_packet
    packet_refused n =
        ap (refused s.turn) checked_at
        ∙ sym (pick_true _ _ (eq-eqb _ _ (sym looked ∙ run)) ∙ pick_false _ _ (ne_eqb _ _ (λ e. n (checked_at ∙ e))))

    module _ (passed : k ≡ 0) {r : Read} (read : r ≡ read_packet ring packet) where
      -- past the checks it is what was read that asks
      read_then : decided_read s ring (position ring from) (position ring to) r ≡ decided_packet s ring from to packet
      unfolding decided_packet
      read_then =
          ap (decided_read s ring (position ring from) (position ring to)) read
          ∙ sym (pick_true _ _ (eq-eqb _ _ (sym looked ∙ run)) ∙ pick_true _ _ (eq-eqb _ _ (sym checked_at ∙ passed)))

      pub packet_unread : (why : Why) (n : ℕ) → r ≡ Refused why → n ≡ read_number (Refused why) → refused s.turn n ≡ decided_packet s ring from to packet
      packet_unread why n e h = rw h (ap (decided_read s ring (position ring from) (position ring to)) (sym e) ∙ read_then)

      pub packet_read : (p : Packet) (g : Frame) → r ≡ Good p → g ≡ frame_of ring p → decided s g f t ≡ decided_packet s ring from to packet
      packet_read p g e h =
          rw (h, sender, addressee) (ap (decided_read s ring (position ring from) (position ring to)) (sym e) ∙ read_then)

refused_so : (s : Station) (n : ℕ) → Decides s (answered s n) (refused s.turn n)
refused_so s n = record { carried = turned_alone s n s.turn None; honest = refl }

-- once it is done, it is what the station answers
packet_so : (s : Station) (ring : List ℕ) (from to : ℕ) (packet : List ℕ) → Decides s (packet_rule s ring from to packet) (decided_packet s ring from to packet)
unfolding packet_rule decided_packet moved unless pick
packet_so s ring from to packet = go (eqb (move_of (state_of s) Heard) runs) (eqb (checks s f t) 0) (read_packet ring packet)
  where
    f : ℕ
    f = position ring from

    t : ℕ
    t = position ring to

    go : (a b : Bool) (r : Read)
        → Decides s (pick a (pick b (heard_then s ring f t r) (answered s (checks s f t))) (answered s (move_of (state_of s) Heard)))
        (pick a (pick b (decided_read s ring f t r) (refused s.turn (checks s f t))) (refused s.turn (move_of (state_of s) Heard)))
    go true true (Refused why) = refused_so s (read_number (Refused why))
    go true true (Good p) = frame_so s (frame_of ring p) f t
    go true false r = refused_so s (checks s f t)
    go false b r = refused_so s (move_of (state_of s) Heard)

-- ---- the information of a heard frame whose message is stored

pub information_heard : (packet x : List ℕ) (p : Option Message) (m : Message) → p ≡ Some m → x ≡ information_in packet m.length → x ≡ heard_information packet p
unfolding heard_information
information_heard packet x p m stored e = e ∙ ap (heard_information packet) (sym stored)

-- ---- what the call leaves

pub not_heard : {rec store packet out told : List ℕ} {from to r : ℕ} → Refusal (bad_buffers (length store) (length out)) rec (frame_answer rec from to packet) r
    → Hearing rec store from to packet out told r rec store out told
not_heard {r = r} f = record { sending = not_sent f; store_is = kept_old r _ _ f.some }

-- the answer over what is held is the one over the record
held_answer : {rec addresses : List ℕ} {n : ℕ} {st : Station} → Held rec addresses n st → (packet ms : List ℕ) (from to : ℕ) (b : Answer)
    → ms ≡ take n addresses → b ≡ packet_rule st ms from to packet → b ≡ frame_answer rec from to packet
held_answer {rec = rec} {st = st} h packet ms from to b seats answer =
    answer
    ∙ ap (λ (x : List ℕ). packet_rule st x from to packet) (seats ∙ h.members)
    ∙ ap (λ (x : Station). packet_rule x (ring_in rec) from to packet) h.station

-- what is decided over it and done is the record's
done_packet : {rec addresses : List ℕ} {n : ℕ} {st : Station} → Held rec addresses n st → (packet ms : List ℕ) (from to : ℕ) (v : Verdict)
    → ms ≡ take n addresses → v ≡ decided_packet st ms from to packet → done_by st v ≡ frame_answer rec from to packet
done_packet {st = st} h packet ms from to v seats asked =
    held_answer h packet ms from to (done_by st v) seats (ap (done_by st) asked ∙ done_so (packet_so st ms from to packet))

module _ {rec addresses store packet out told ms : List ℕ} {n from to : ℕ} {st : Station} (v : Verdict)
    (good : bad_buffers (length store) (length out) ≡ false)
    (h : Held rec addresses n st)
    (seats : ms ≡ take n addresses)
    (asked : v ≡ decided_packet st ms from to packet)
  where
    pub heard_refused : (v.number ≡ 0 → ⊥) → Hearing rec store from to packet out told v.number rec store out told
    heard_refused k = not_heard (refused_by good h.ok (done_by st v) (done_packet h packet ms from to v seats asked) (done_number st v) k)

    -- composed from the store as it was, with the members anew; then the heard payload is stored
    pub heard_done : v.number ≡ 0 → (again carried information rec' store' out' told' : List ℕ) (p : Option Message)
        → again ≡ take n addresses
        → carried ≡ information_of store v.sent
        → (p ≡ (done_by st v).payload) × Left (done_by st v) again carried rec out told rec' out' told'
        → information ≡ heard_information packet p
        → store' ≡ received store p information
        → Hearing rec store from to packet out told 0 rec' store' out' told'
    heard_done z again carried information rec' store' out' told' p er ec settled ei es =
        let answers : done_by st v ≡ frame_answer rec from to packet = done_packet h packet ms from to v seats asked in
        record {
          sending =
              all_sent (done_by st v) again carried rec' out' told' (done good h.ok (done_by st v) answers (done_number st v ∙ z)) answers
              (er ∙ h.members)
              (ec ∙ ap (information_of store) (sym (done_sent st v)) ∙ ap (λ (x : Answer). information_of store x.sent) answers)
              settled.1;
          store_is =
              es
              ∙ ap (received store p) ei
              ∙ ap (λ (q : Option Message). received store q (heard_information packet q)) (settled.0 ∙ ap (λ (x : Answer). x.payload) answers);
        }
