-- What a heard frame stored is what take hands back, whatever other calls came between, as long as the message stands in the receive
-- list. Assumes nothing.
use mathlib.Core.Path.{◌≡◌, sym, ap, subst, ◌∙◌}
use mathlib.Core.List.{List, [], Memᴰ}
use Prim.Native.Nat.{ℕ, ◌+◌, ◌<◌, ◌≤◌}
use native.Mathlib.Omega.{arith}
use borrow.Author.Tests.{eqb-true, not-false, le-leb}
use lib.ListN.{length}
use Rattle.codec.specs.Octets.{Octets, laid}
use Rattle.packet_codec.specs.Packet.{information_in, information_part}
use Rattle.parts.specs.Messages.{all}
use Rattle.parts.specs.declared.list.Message.{Message}
use Rattle.parts.proofs.Laws.Choose.{pick_true}
use Rattle.station.specs.declared.station.Station.{Station}
use Rattle.std.specs.Prelude.{Option, Some}
use Rattle.station.specs.declared.station.Answer.{Answer}
use Rattle.station_theorems.proofs.Laws.Members.{standing}
use Rattle.station_theorems.proofs.Theorems.Whole.{whole_is}
use Rattle.records.specs.Layout.{place_length, store_length, receive_places}
use Rattle.driver_buffers.specs.Places.{fits_place, in_place, put_place, received, taken}
use Rattle.driver_buffers.specs.Telling.{taken_told}
use Rattle.driver_calls.specs.Calls.{ring_in, station_in, bad_store, heard_information, store_heard, taken_into, frame_answer, take_answer, Hearing, Taking}
use Rattle.driver_theorems.proofs.Theorems.Held.{held_sure, anew_reads, frame_sure}
use Rattle.driver_theorems.specs.Held.{Held, by_frame}
use Rattle.wire_theorems.specs.Store.{While, Received, received_payload}
use Rattle.wire_theorems.proofs.Laws.Stores.{buffer_good, store_sized, place_fits, place_sized}
use Rattle.wire_theorems.proofs.Laws.Laid.{put_there}
use Rattle.wire_theorems.proofs.Laws.Heard.{heard_sized}
use Rattle.wire_theorems.proofs.Laws.Joined.{packet_hears, take_takes}
use Rattle.wire_theorems.proofs.Theorems.PayloadsStay.{while_held, received_stays}
use Rattle.wire_theorems.specs.Taken.{Stored, HandedBack, TakenBack}

-- ---- a heard frame

pub frame_puts : {rec : List ℕ} → Held rec → (store : List ℕ) (from to : ℕ) (packet out told rec' store' out' told' : List ℕ) → Octets packet
    → Hearing rec store from to packet out told 0 rec' store' out' told' → (m : Message) → (frame_answer rec from to packet).payload ≡ Some m
    → Stored rec rec' store store' packet m
unfolding received heard_information
frame_puts {rec} p store from to packet out told rec' store' out' told' o n m moves =
    let s : Station = station_in rec in
    let a : Answer = frame_answer rec from to packet in
    let h = held_sure p in
    let k = frame_sure rec h from to packet o in
    let sized : length store ≡ store_length = store_sized rec a (length store) (length out) n.sending.answer in
    let j = packet_hears s h.whole.shaped.receives (ring_in rec) packet from to m moves in
    let x : List ℕ = information_in packet m.length in
    let l = heard_sized (ring_in rec) packet j.from_packet o j.reads m.length j.stores.length_is in
    let within : receive_places + m.place < 32 = omega (arith, j.stores.joins.place_fits) in
    let short : length x ≤ place_length = omega (arith, l.0, l.1) in
    let part : x ≡ information_part j.from_packet packet = ap (information_in packet) j.stores.length_is in
    let st : station_in rec' ≡ a.station = ap station_in n.sending.record_is ∙ (anew_reads rec a.station h k.0 k.1).station in
    let over : store' ≡ put_place store (receive_places + m.place) x = n.store_is ∙ ap (store_heard store packet) moves in
    record {
      packet_read = j.from_packet;
      reads = j.reads;
      is_part = part;
      long = l.0;
      place_fits =
          ap (λ (y : List ℕ). fits_place (length store) (receive_places + m.place) (length y)) (sym part)
          ∙ place_fits (length store) (receive_places + m.place) (length x) sized within short;
      stands = subst (λ (y : Station). Memᴰ m (all y.receives)) (sym st) (standing (all s.receives) [] m _ j.stores.joins.joined);
      holds =
          ap (λ (y : List ℕ). in_place y (receive_places + m.place) m.length) over
          ∙ ap (in_place (put_place store (receive_places + m.place) x) (receive_places + m.place)) (sym l.0)
          ∙ put_there store sized (receive_places + m.place) x within short
          ∙ part;
    }

-- ---- take

pub take_hands_back : {rec : List ℕ} → Held rec → (store : List ℕ) (channel : ℕ) (room told rec' room' told' : List ℕ)
    → Taking rec store channel room told 0 rec' room' told' → (m : Message) → (take_answer rec channel room).payload ≡ Some m
    → HandedBack (ring_in rec) store room m room' told'
unfolding taken_into taken
take_hands_back {rec} p store channel room told rec' room' told' n m moves =
    let s : Station = station_in rec in
    let h = held_sure p in
    let w = whole_is s h.whole.shaped h.whole.is_whole in
    let t = take_takes s channel (length room) m moves in
    let g = w.receives.each_good m t.stood in
    let sized : length store ≡ store_length = eqb-true _ _ (not-false _ (buffer_good (bad_store (length store)) rec (take_answer rec channel room) n.answer)) in
    let within : receive_places + m.place < 32 = omega (arith, g.place_fits) in
    let long : length (received_payload store m) ≡ m.length = place_sized store (receive_places + m.place) m.length sized within g.length_fits in
    record {
      place_fits = place_fits (length store) (receive_places + m.place) m.length sized within g.length_fits;
      room_fits = t.room_fits;
      room_is =
          n.room_is
          ∙ ap (λ (d : Option Message). taken_into room (taken store d)) moves
          ∙ pick_true _ _ (le-leb (length (received_payload store m)) (length room) (omega (arith, long, t.room_fits)));
      told_is = n.told_is ∙ ap (taken_told (ring_in rec)) moves;
    }

-- ---- the theorem: from the heard frame, over any calls while the message stands, to its taking

pub heard_taken : {rec : List ℕ} → Held rec → (store : List ℕ) (from to : ℕ) (packet out told rec₁ store₁ out' told' : List ℕ) → Octets packet
    → Hearing rec store from to packet out told 0 rec₁ store₁ out' told' → (m : Message) → (frame_answer rec from to packet).payload ≡ Some m
    → (rec₂ store₂ : List ℕ) → While (Received m) rec₁ store₁ rec₂ store₂
    → (channel : ℕ) (room tells rec₃ room' tells' : List ℕ) → Taking rec₂ store₂ channel room tells 0 rec₃ room' tells'
    → (take_answer rec₂ channel room).payload ≡ Some m → TakenBack (ring_in rec₂) packet room m room' tells'
heard_taken {rec} p store from to packet out told rec₁ store₁ out' told' o n m moves rec₂ store₂ w channel room tells rec₃ room' tells' t takes =
    let p₁ : Held rec₁ = by_frame rec store from to packet out told 0 rec₁ store₁ out' told' p o n in
    let put = frame_puts p store from to packet out told rec₁ store₁ out' told' o n m moves in
    let back = take_hands_back (while_held p₁ w) store₂ channel room tells rec₃ room' tells' t m takes in
    record {
      long = put.long;
      room_fits = back.room_fits;
      room_is = back.room_is ∙ ap (laid room 0) (received_stays m p₁ w ∙ put.holds ∙ sym put.is_part);
      told_is = back.told_is;
    }
