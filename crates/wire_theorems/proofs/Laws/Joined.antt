-- Which message's payload a call moves: one that joins a list, in a place that no other has, or one that is taken from it. Assumes nothing.
use mathlib.Core.Path.{◌≡◌, refl, sym, ap, subst, ◌∙◌}
use mathlib.Core.Bool.{Bool, false, false≢true}
use mathlib.Core.List.{List, [], ◌∷◌, ◌++◌, Memᴰ}
use Prim.Native.Nat.{ℕ, ◌<◌, ◌≤◌}
use native.Mathlib.Omega.{arith}
use borrow.Author.Tests.{leb-false, eqb-true, ltb-false}
use lib.Dec.{leb, ltb, eqb}
use lib.ListN.{length, length-take}
use Rattle.std.proofs.lemmas.Option.{same_Some}
use Rattle.std.specs.Option.{option_map_or, unwrap_or}
use Rattle.parts.proofs.Laws.Choose.{map_or_keeps}
use Rattle.codec.proofs.Laws.Order.{none_holds}
use Rattle.packet_codec.specs.Packet.{information_length, read_packet}
use Rattle.packet_codec.specs.declared.packet.Packet.{Packet}
use Rattle.packet_codec.specs.declared.packet.Packet.TheVariants.{Token as TokenOf, Transmit as TransmitOf, Information as InformationOf}
use Rattle.packet_codec.specs.declared.reading.Read.{Read}
use Rattle.packet_codec.specs.declared.reading.Read.TheVariants.{Refused, Good}
use Rattle.parts.specs.Messages.{all, pushed, lowest_free, blank}
use Rattle.parts.specs.Live.{live_at}
use Rattle.parts.specs.Frames.{number_of, failing_of, flight}
use Rattle.parts.specs.declared.list.Message.{Message}
use Rattle.parts.specs.declared.list.Messages.{Messages}
use Rattle.parts.specs.declared.list.Which.TheVariants.{OnChannel}
use Rattle.parts.specs.declared.request.Request.{Request}
use Rattle.std.specs.Prelude.{Option, None, Some, is_none}
use Rattle.parts.specs.Refusals.{take_refusal}
use Rattle.parts.proofs.Laws.Queue.{queue_good}
use Rattle.station.specs.Stations.{awaited_of, answered, moved, unless, alone}
use Rattle.station.specs.Strike.{Loss, Struck, strike, give_up_to, give_up_at, give_up_flight, message_at, nothing_gone, leave}
use Rattle.station.specs.Heard.{Stored, acknowledged, landed, acknowledge, strike_other, strike_heard, failed, receive, stored, handle, respond, heard, frame_rule}
use Rattle.station.specs.Queue.{queue_number, new_message, accepted, queue_rule}
use Rattle.station.specs.Take.{best_on, taking, take_rule}
use Rattle.station.specs.declared.station.Station.{Station}
use Rattle.station.specs.declared.station.Answer.{Answer}
use Rattle.station_theorems.proofs.Laws.Kept.{push_all}
use Rattle.station_theorems.proofs.Laws.Members.{standing}
use Rattle.station_theorems.proofs.Laws.Small.{pick_keeps, pick_keeps_if}
use Rattle.station_theorems.proofs.Laws.Telling.{pick_either}
use Rattle.station_theorems.proofs.Theorems.FreePlace.{lowest_free_lem}
use Rattle.station_theorems.proofs.Theorems.Head.{best_is_first}
use Rattle.driver_buffers.specs.Packets.{frame_of}
use Rattle.driver_calls.specs.Calls.{heard_then, packet_rule}

no_payload : {m : Message} → None ≡ Some m → ⊥
no_payload e = let z : ◌≡◌ {A = ℕ} 0 1 = cc in omega arith

-- ---- a list that a message joins

pub record JoinsList (before : Messages) (m : Message) (after : Messages) : Type 0 where
  pub place_fits : m.place < 16
  pub place_free : (x : Message) → Memᴰ x (all before) → x.place ≡ m.place → ⊥
  pub joined : all after ≡ all before ++ m ∷ []

push_joins : (l : Messages) (m : Message) → length l.items ≡ 16 → l.len < 16 → m.place ≡ lowest_free (all l) → JoinsList l m (pushed l m)
push_joins l m array room e =
    let few : length (all l) < 16 = omega (arith, length-take l.len l.items) in
    let free = lowest_free_lem (all l) in
    let fits : lowest_free (all l) < 16 = free.room few in
    record {
      place_fits = rw e fits;
      place_free = λ x h q. free.nobodys fits x h (q ∙ e);
      joined = push_all l m array room;
    }

-- ---- queue

pub record Queues (s : Station) (q : Request) (m : Message) (a : Answer) : Type 0 where
  pub joins : JoinsList s.sends m a.station.sends
  pub length_is : m.length ≡ q.length
  pub length_fits : q.length ≤ 1492

abbrev QueuesAll : Station → Request → Answer → Type 0
QueuesAll s q a = (m : Message) → a.payload ≡ Some m → Queues s q m a

pub queue_joins : (s : Station) (q : Request) → length s.sends.items ≡ 16 → (m : Message) → (queue_rule s q).payload ≡ Some m → Queues s q m (queue_rule s q)
unfolding queue_rule moved unless accepted
queue_joins s q array =
    let none : (n : ℕ) → QueuesAll s q (answered s n) = λ n m e. absurd (no_payload e) in
    pick_keeps (QueuesAll s q) _ _ _
    (pick_keeps_if (QueuesAll s q) (eqb (queue_number s q) 0) _ _
    (λ z m e.
    let g = queue_good s.n s.own (live_at s.live q.to) s.sends.len q (eqb-true _ _ z) in
    let same : new_message s q ≡ m = cc in
    subst (λ (x : Message). Queues s q x (accepted s q)) same
    (record { joins = push_joins s.sends (new_message s q) array g.room refl; length_is = refl; length_fits = g.length_fits }))
    (none _))
    (none _)

-- ---- take

pub record Takes (s : Station) (room : ℕ) (m : Message) : Type 0 where
  pub stood : Memᴰ m (all s.receives)
  pub room_fits : m.length ≤ room

abbrev TakesAll : Station → ℕ → Answer → Type 0
TakesAll s room a = (m : Message) → a.payload ≡ Some m → Takes s room m

taken_good : (s : Station) (channel room : ℕ) → take_refusal channel (best_on s channel) room ≡ 0 → Takes s room (unwrap_or (best_on s channel) blank)
unfolding take_refusal
taken_good s channel room e =
    let t = none_holds 0 ((ltb 7 channel, 17) ∷ (is_none (best_on s channel), 20) ∷ (too_long (best_on s channel), 21) ∷ [])
    ((λ z. omega arith), ((λ z. omega arith), ((λ z. omega arith), tt))) e in
    go (best_on s channel) refl t.1.0 t.1.1.0
  where
    too_long : Option Message → Bool
    too_long b = option_map_or (λ (m : Message). ltb room m.length) b false

    go : (b : Option Message) → best_on s channel ≡ b → is_none b ≡ false → too_long b ≡ false → Takes s room (unwrap_or b blank)
    go None i n l = absurd (false≢true (sym n))
    go (Some m) i n l =
        let f = (best_is_first (OnChannel channel) s.receives).first m i in
        record { stood = standing f.before f.behind m (all s.receives) f.stands; room_fits = ltb-false _ _ l }

pub take_takes : (s : Station) (channel room : ℕ) → TakesAll s room (take_rule s channel room)
unfolding take_rule moved unless taking
take_takes s channel room =
    pick_keeps (TakesAll s room) _ _ _
    (pick_keeps_if (TakesAll s room) (eqb (take_refusal channel (best_on s channel) room) 0) _ _
    (λ z m e.
    subst (Takes s room) (same_Some _ _ e) (taken_good s channel room (eqb-true _ _ z)))
    (λ m e. absurd (no_payload e)))
    (λ m e. absurd (no_payload e))

-- ---- a heard frame: nothing before the store changes the receive list

module _ (l : Messages) where
  abbrev Has : Station → Type 0
  Has s = s.receives ≡ l

  abbrev LossHas : Loss → Type 0
  LossHas k = k.station.receives ≡ l

  abbrev StruckHas : Struck → Type 0
  StruckHas k = k.station.receives ≡ l

  acknowledge_has : (s : Station) (from k : ℕ) → Has s → Has (acknowledge s from k)
  unfolding acknowledge landed
  acknowledge_has s from k h = pick_keeps Has (acknowledged s from k) _ s (map_or_keeps Has (leave s) (flight (awaited_of s)) s (λ p. h) h) h

  flight_has : (k : Loss) → LossHas k → LossHas (give_up_flight k)
  unfolding give_up_flight give_up_at
  flight_has k h =
      map_or_keeps LossHas _ (flight (awaited_of k.station)) k (λ p. map_or_keeps LossHas _ (message_at k.station p) k (λ m. h) h) h

  failed_has : (s : Station) (w : Option ℕ) → Has s → StruckHas (failed s w)
  unfolding failed strike_heard strike_other give_up_to
  failed_has s None h = h
  failed_has s (Some p) h =
      pick_keeps StruckHas (eqb p s.own) _ _ (flight_has (nothing_gone (strike s p)) h)
      (pick_keeps StruckHas (alone (strike s p)) _ _ (flight_has (give_up_to (strike s p) p) h) h)

-- what a station with this receive list stores of a packet
pub record Stores (before : Messages) (p : Packet) (m : Message) (after : Messages) : Type 0 where
  pub joins : JoinsList before m after
  pub length_is : m.length ≡ information_length p

receive_joins : (s : Station) (x : Message) → length s.receives.items ≡ 16 → x.place ≡ lowest_free (all s.receives) → (m : Message)
    → (receive s x).payload ≡ Some m → (x ≡ m) × JoinsList s.receives m (receive s x).station.receives
unfolding receive
receive_joins s x array free m =
    pick_either
    (λ (t : Stored). t.payload ≡ Some m → (x ≡ m) × JoinsList s.receives m t.station.receives)
    (leb 16 s.receives.len) _ _
    (λ b e. absurd (no_payload e))
    (λ b e.
    let same : x ≡ m = cc in
    (same, subst (λ (y : Message). JoinsList s.receives y (pushed s.receives x)) same (push_joins s.receives x array (leb-false _ _ b) free)))

stored_joins : (s : Station) → length s.receives.items ≡ 16 → (ring : List ℕ) (from : ℕ) (p : Packet) (m : Message)
    → (stored s from (frame_of ring p)).payload ≡ Some m → Stores s.receives p m (stored s from (frame_of ring p)).station.receives
unfolding stored frame_of
stored_joins s array ring from (TokenOf p) m e = absurd (no_payload e)
stored_joins s array ring from (TransmitOf p) m e = absurd (no_payload e)
stored_joins s array ring from (InformationOf h) m e =
    let r = receive_joins s _ array refl m e in
    record { joins = r.1; length_is = ap (λ (x : Message). x.length) (sym r.0) }

module _ (s : Station) (array : length s.receives.items ≡ 16) (ring : List ℕ) where
  abbrev StoresAll : Packet → Answer → Type 0
  StoresAll p a = (m : Message) → a.payload ≡ Some m → Stores s.receives p m a.station.receives

  respond_stores : (k : Struck) → k.station.receives ≡ s.receives → (from to : ℕ) (p : Packet) → StoresAll p (respond k from to (frame_of ring p))
  unfolding respond handle
  respond_stores k h from to p =
      let array' : length k.station.receives.items ≡ 16 = ap (λ (l : Messages). length l.items) h ∙ array in
      pick_keeps (StoresAll p) _ _ _ (λ m e. absurd (no_payload e))
      (λ m e.
      subst (λ (l : Messages). Stores l p m (stored k.station from (frame_of ring p)).station.receives) h
      (stored_joins k.station array' ring from p m e))

  frame_stores : (p : Packet) (from to : ℕ) → StoresAll p (frame_rule s (frame_of ring p) from to)
  unfolding frame_rule moved unless heard
  frame_stores p from to =
      pick_keeps (StoresAll p) _ _ _
      (pick_keeps (StoresAll p) _ _ _
      (respond_stores _ (failed_has s.receives _ (failing_of (frame_of ring p)) (acknowledge_has s.receives s from (number_of (frame_of ring p)) refl)) from to p)
      (λ m e. absurd (no_payload e)))
      (λ m e. absurd (no_payload e))

-- a packet that was read, and what is stored of it
pub record Hears (s : Station) (ring packet : List ℕ) (m : Message) (a : Answer) : Type 0 where
  pub from_packet : Packet
  pub reads : read_packet ring packet ≡ Good from_packet
  pub stores : Stores s.receives from_packet m a.station.receives

module _ (s : Station) (array : length s.receives.items ≡ 16) (ring packet : List ℕ) where
  abbrev HearsAll : Answer → Type 0
  HearsAll a = (m : Message) → a.payload ≡ Some m → Hears s ring packet m a

  then_hears : (from to : ℕ) (d : Read) → read_packet ring packet ≡ d → HearsAll (heard_then s ring from to d)
  then_hears from to (Refused why) r m e = absurd (no_payload e)
  then_hears from to (Good p) r m e = record { from_packet = p; reads = r; stores = frame_stores s array ring p from to m e }

  pub packet_hears : (from to : ℕ) → HearsAll (packet_rule s ring from to packet)
  unfolding packet_rule moved unless
  packet_hears from to =
      pick_keeps HearsAll _ _ _
      (pick_keeps HearsAll _ _ _ (then_hears _ _ (read_packet ring packet) refl) (λ m e. absurd (no_payload e)))
      (λ m e. absurd (no_payload e))
