-- No call writes over the payload of a message that stands in either list: what it writes goes into a place that no message of that
-- list has. So while a message stands in its list, its payload stays, whatever calls come. Assumes nothing.
use mathlib.Core.Path.{◌≡◌, refl, sym, subst, ◌∙◌}
use mathlib.Core.Bool.{Bool, true, false, cond}
use mathlib.Core.List.{List}
use Prim.Native.Nat.{ℕ, ◌+◌, ◌<◌, ◌≤◌}
use native.Mathlib.Omega.{arith}
use borrow.Author.Tests.{eqb-true, not-false}
use lib.Dec.{eqb}
use lib.ListN.{length}
use Rattle.codec.specs.Octets.{Octets}
use Rattle.packet_codec.specs.Packet.{kept, information_in}
use Rattle.parts.specs.declared.list.Message.{Message}
use Rattle.parts.specs.declared.request.Request.{Request}
use Rattle.std.specs.Prelude.{Option, None, Some}
use Rattle.station.specs.declared.station.Answer.{Answer}
use Rattle.station_theorems.proofs.Theorems.Whole.{whole_is}
use Rattle.station_theorems.specs.Whole.{Whole}
use Rattle.records.specs.Layout.{place_length, store_length, receive_places}
use Rattle.driver_buffers.specs.Places.{put_place, queued, received}
use Rattle.driver_calls.specs.Calls.{ring_in, station_in, bad_store, heard_information, store_heard, queue_answer, frame_answer, Hearing, Queueing}
use Rattle.driver_theorems.proofs.Theorems.Held.{held_sure}
use Rattle.driver_theorems.specs.Held.{Held, Sure, by_start as held_start, by_frame as held-frame, by_timer as held-timer, by_queue as held-queue, by_take as held-take}
use Rattle.wire_theorems.specs.Store.{Call, by_start, by_frame, by_timer, by_queue, by_take, While, no_call, then_call, ToSend, Received, send_payload, received_payload, PayloadsStay}
use Rattle.wire_theorems.proofs.Laws.Stores.{buffer_good, store_sized}
use Rattle.wire_theorems.proofs.Laws.Laid.{put_elsewhere}
use Rattle.wire_theorems.proofs.Laws.Joined.{queue_joins, packet_hears}
use Rattle.wire_theorems.proofs.Laws.Heard.{heard_sized}

all_stay : (rec store : List ℕ) → PayloadsStay rec store store
all_stay rec store = record { to_send = λ m i. refl; received = λ m i. refl }

module _ (rec : List ℕ) (h : Sure rec) (store : List ℕ) where
  w : Whole (station_in rec)
  w = whole_is (station_in rec) h.whole.shaped h.whole.is_whole

  -- what is put into a place of nobody's
  put_stays : length store ≡ store_length → (place : ℕ) (x : List ℕ) → place < 32 → length x ≤ place_length
      → ((m : Message) → ToSend m rec → m.place ≡ place → ⊥) → ((m : Message) → Received m rec → receive_places + m.place ≡ place → ⊥)
      → PayloadsStay rec store (put_place store place x)
  put_stays e place x within short no-send no-receive =
      record {
        to_send = λ m i.
            let g = w.sends.each_good m i in
            put_elsewhere store e place x within short m.place m.length (omega (arith, g.place_fits)) g.length_fits (no-send m i);
        received = λ m i.
            let g = w.receives.each_good m i in
            put_elsewhere store e place x within short (receive_places + m.place) m.length (omega (arith, g.place_fits)) g.length_fits (no-receive m i);
      }

  -- on a refusal the store stays
  call_stays : (store' new : List ℕ) (r : ℕ) → store' ≡ kept r store new → (r ≡ 0 → PayloadsStay rec store new) → PayloadsStay rec store store'
  call_stays store' new r e k = subst (PayloadsStay rec store) (sym e) (go (eqb r 0) refl)
    where
      go : (b : Bool) → eqb r 0 ≡ b → PayloadsStay rec store (cond b new store)
      go true q = k (eqb-true r 0 q)
      go false q = all_stay rec store

  queue_stays : (q : Request) (payload : List ℕ) (rec' store' : List ℕ) (r : ℕ) → q.length ≡ length payload → Queueing rec store q payload r rec' store'
      → PayloadsStay rec store store'
  unfolding queued
  queue_stays q payload rec' store' r l m =
      call_stays store' (queued store (queue_answer rec q).payload payload) r m.store_is
      (λ z. go (eqb-true _ _ (not-false _ (buffer_good (bad_store (length store)) rec (queue_answer rec q) (sym z ∙ m.answer)))) (queue_answer rec q).payload refl)
    where
      go : length store ≡ store_length → (d : Option Message) → (queue_answer rec q).payload ≡ d → PayloadsStay rec store (queued store d payload)
      go e None p = all_stay rec store
      go e (Some x) p =
          let j = queue_joins (station_in rec) q h.whole.shaped.sends x p in
          put_stays e x.place payload (omega (arith, j.joins.place_fits)) (omega (arith, l, j.length_fits)) j.joins.place_free
          (λ y i t. omega (arith, t, j.joins.place_fits))

  frame_stays : (from to : ℕ) (packet out told : List ℕ) (r : ℕ) (rec' store' out' told' : List ℕ) → Octets packet
      → Hearing rec store from to packet out told r rec' store' out' told' → PayloadsStay rec store store'
  unfolding received heard_information
  frame_stays from to packet out told r rec' store' out' told' o m =
      let a : Answer = frame_answer rec from to packet in
      call_stays store' (store_heard store packet a.payload) r m.store_is
      (λ z. go (store_sized rec a (length store) (length out) (sym z ∙ m.sending.answer)) a.payload refl)
    where
      go : length store ≡ store_length → (d : Option Message) → (frame_answer rec from to packet).payload ≡ d → PayloadsStay rec store (store_heard store packet d)
      go e None p = all_stay rec store
      go e (Some x) p =
          let k = packet_hears (station_in rec) h.whole.shaped.receives (ring_in rec) packet from to x p in
          let j = k.stores.joins in
          let l = heard_sized (ring_in rec) packet k.from_packet o k.reads x.length k.stores.length_is in
          put_stays e (receive_places + x.place) (information_in packet x.length) (omega (arith, j.place_fits)) (omega (arith, l.0, l.1))
          (λ y i t. omega (arith, t, (w.sends.each_good y i).place_fits))
          (λ y i t. j.place_free y i (omega (arith, t)))

-- ---- each call

pub payloads_stay : {rec : List ℕ} → Held rec → (store rec' store' : List ℕ) → Call rec store rec' store' → PayloadsStay rec store store'
payloads_stay p store rec' store' (by_start rec _ out told r _ out' told' m) = all_stay rec store
payloads_stay p store rec' store' (by_frame rec _ from to packet out told r _ _ out' told' o m) =
    frame_stays rec (held_sure p) store from to packet out told r rec' store' out' told' o m
payloads_stay p store rec' store' (by_timer rec _ out told r _ out' told' m) = all_stay rec store
payloads_stay p store rec' store' (by_queue rec _ q payload r _ _ l m) = queue_stays rec (held_sure p) store q payload rec' store' r l m
payloads_stay p store rec' store' (by_take rec _ channel room told r _ room' told' m) = all_stay rec store

-- ---- and any number of them

call_held : {rec : List ℕ} → Held rec → (store rec' store' : List ℕ) → Call rec store rec' store' → Held rec'
call_held p store rec' store' (by_start rec _ out told r _ out' told' m) = held_start rec out told r rec' out' told' p m
call_held p store rec' store' (by_frame rec _ from to packet out told r _ _ out' told' o m) =
    held-frame rec store from to packet out told r rec' store' out' told' p o m
call_held p store rec' store' (by_timer rec _ out told r _ out' told' m) = held-timer rec store out told r rec' out' told' p m
call_held p store rec' store' (by_queue rec _ q payload r _ _ l m) = held-queue rec store q payload r rec' store' p m
call_held p store rec' store' (by_take rec _ channel room told r _ room' told' m) = held-take rec store channel room told r rec' room' told' p m

module _ {holds : List ℕ → Type 0} {rec store : List ℕ} (p : Held rec) where
  pub while_held : {rec' store' : List ℕ} → While holds rec store rec' store' → Held rec'
  while_held (no_call h) = p
  while_held (then_call rec₁ store₁ rec' store' w c h) = call_held (while_held w) store₁ rec' store' c

while_holds : {holds : List ℕ → Type 0} {rec store rec' store' : List ℕ} → While holds rec store rec' store' → holds rec'
while_holds (no_call h) = h
while_holds (then_call rec₁ store₁ rec' store' w c h) = h

module _ (m : Message) {rec store : List ℕ} (p : Held rec) where
  pub to_send_stays : {rec' store' : List ℕ} → While (ToSend m) rec store rec' store' → send_payload store' m ≡ send_payload store m
  to_send_stays (no_call h) = refl
  to_send_stays (then_call rec₁ store₁ rec' store' w c h) =
      (payloads_stay (while_held p w) store₁ rec' store' c).to_send m (while_holds w) ∙ to_send_stays w

  pub received_stays : {rec' store' : List ℕ} → While (Received m) rec store rec' store' → received_payload store' m ≡ received_payload store m
  received_stays (no_call h) = refl
  received_stays (then_call rec₁ store₁ rec' store' w c h) =
      (payloads_stay (while_held p w) store₁ rec' store' c).received m (while_holds w) ∙ received_stays w
