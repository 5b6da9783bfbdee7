-- What queue put into the store is what the information frame of that message carries, and every resend of it, as long as the message
-- stands in the send list. Assumes nothing.
use mathlib.Core.Path.{◌≡◌, refl, sym, ap, subst, ◌∙◌}
use mathlib.Core.Bool.{true}
use mathlib.Core.List.{List, [], Memᴰ}
use Prim.Native.Nat.{ℕ, ◌<◌, ◌≤◌}
use native.Mathlib.Omega.{arith}
use borrow.Author.Tests.{eqb-true, eqb-false, not-false}
use lib.Dec.{eqb}
use lib.ListN.{length}
use Rattle.std.proofs.lemmas.Option.{same_Some}
use Rattle.parts.specs.Messages.{all, best_of}
use Rattle.parts.specs.Moves.{move_of}
use Rattle.parts.specs.declared.moves.State.{State}
use Rattle.parts.specs.declared.moves.State.TheVariants.{Offline, Idle, Waiting, Alone, Excluded}
use Rattle.parts.specs.declared.moves.Event.TheVariants.{Queue}
use Rattle.parts.specs.declared.list.Message.{Message}
use Rattle.parts.specs.declared.list.Messages.{Messages}
use Rattle.parts.specs.declared.list.Which.TheVariants.{HasPlace}
use Rattle.parts.specs.declared.request.Request.{Request}
use Rattle.parts.specs.declared.frame.InformationFrame.{InformationFrame}
use Rattle.parts.specs.declared.frame.Frame.TheVariants.{Information}
use Rattle.station.specs.Stations.{state_of, answered, moved, unless}
use Rattle.station.specs.Queue.{new_message, queue_number, accepted, queue_rule}
use Rattle.station.specs.declared.station.Station.{Station}
use Rattle.std.specs.Prelude.{None, Some}
use Rattle.station.specs.declared.station.Answer.{Answer}
use Rattle.wholeness.specs.Whole.{apart}
use Rattle.station_theorems.proofs.Laws.Carried.{best_found}
use Rattle.station_theorems.proofs.Laws.Members.{standing, stood}
use Rattle.station_theorems.proofs.Laws.Small.{pick_keeps}
use Rattle.station_theorems.proofs.Laws.Telling.{pick_either}
use Rattle.records.specs.Layout.{store_length}
use Rattle.driver_buffers.specs.Places.{in_place, put_place, carried_in, queued}
use Rattle.driver_calls.specs.Calls.{station_in, bad_store, queue_answer, Queueing, ring_in}
use Rattle.driver_theorems.proofs.Theorems.Held.{held_sure, anew_reads, queue_sure}
use Rattle.driver_theorems.specs.Held.{Held, by_queue}
use Rattle.wire_theorems.specs.Wire.{Sends, made_of}
use Rattle.wire_theorems.specs.Store.{While, ToSend, send_payload}
use Rattle.wire_theorems.proofs.Laws.Stores.{buffer_good, own_number, place_fits}
use Rattle.wire_theorems.proofs.Laws.Laid.{put_there}
use Rattle.wire_theorems.proofs.Laws.Joined.{queue_joins}
use Rattle.wire_theorems.proofs.Theorems.Conveyed.{sends_conveyed, sends_from_store, sends_outgoing}
use Rattle.wire_theorems.proofs.Theorems.PayloadsStay.{to_send_stays}
use Rattle.wire_theorems.specs.Carried.{Queued, CarriesMessage, OfMessage, CarriesQueued}

-- ---- queue

-- an accepted message moves its payload
abbrev ZeroPuts : Station → Request → Answer → Type 0
ZeroPuts s q a = a.number ≡ 0 → a.payload ≡ Some (new_message s q)

queue_runs : (st : State) → move_of st Queue ≡ 0 → ⊥
queue_runs Offline e = omega (arith, e)
queue_runs Idle e = omega (arith, e)
queue_runs Waiting e = omega (arith, e)
queue_runs Alone e = omega (arith, e)
queue_runs Excluded e = omega (arith, e)

zero_puts : (s : Station) (q : Request) → ZeroPuts s q (queue_rule s q)
unfolding queue_rule moved unless accepted
zero_puts s q =
    pick_keeps (ZeroPuts s q) _ _ _
    (pick_either (ZeroPuts s q) (eqb (queue_number s q) 0) (accepted s q) (answered s (queue_number s q)) (λ t z. refl) (λ t z. absurd (eqb-false _ _ t z)))
    (λ z. absurd (queue_runs (state_of s) z))

pub queue_puts : {rec : List ℕ} → Held rec → (store : List ℕ) (q : Request) (payload rec' store' : List ℕ) → q.length ≡ length payload
    → Queueing rec store q payload 0 rec' store' → Queued rec' store store' q payload (new_message (station_in rec) q)
unfolding queued
queue_puts {rec} p store q payload rec' store' l n =
    let s : Station = station_in rec in
    let a : Answer = queue_answer rec q in
    let m : Message = new_message s q in
    let h = held_sure p in
    let k = queue_sure rec h q in
    let sized : length store ≡ store_length = eqb-true _ _ (not-false _ (buffer_good (bad_store (length store)) rec a n.answer)) in
    let moves : a.payload ≡ Some m = zero_puts s q (own_number (bad_store (length store)) rec a n.answer) in
    let j = queue_joins s q h.whole.shaped.sends m moves in
    let within : m.place < 32 = omega (arith, j.joins.place_fits) in
    let short : length payload ≤ 1492 = omega (arith, l, j.length_fits) in
    let st : station_in rec' ≡ a.station = ap station_in n.record_is ∙ (anew_reads rec a.station h k.0 k.1).station in
    let over : store' ≡ put_place store m.place payload = n.store_is ∙ ap (λ d. queued store d payload) moves in
    record {
      asked = refl;
      place_fits = place_fits (length store) m.place (length payload) sized within short;
      stands = subst (λ (x : Station). Memᴰ m (all x.sends)) (sym st) (standing (all s.sends) [] m _ j.joins.joined);
      holds =
          ap (λ (x : List ℕ). in_place x m.place m.length) over
          ∙ ap (in_place (put_place store m.place payload) m.place) l
          ∙ put_there store sized m.place payload within short;
    }

-- ---- the frame

-- two messages of a list with places of their own are the same where their places are
same_place : (l : Messages) → apart [] (all l) ≡ true → (m c : Message) → Memᴰ m (all l) → Memᴰ c (all l) → c.place ≡ m.place → c ≡ m
same_place l a m c h k e =
    let u = stood h in
    let v = stood k in
    let x : best_of (HasPlace m.place) (all l) None ≡ Some m = best_found (all l) u.0 u.1 m a u.2 in
    let y : best_of (HasPlace c.place) (all l) None ≡ Some c = best_found (all l) v.0 v.1 c a v.2 in
    same_Some _ _ (sym y ∙ ap (λ (n : ℕ). best_of (HasPlace n) (all l) None) e ∙ x)

pub carries_message : {rec store : List ℕ} {i : InformationFrame} {to : ℕ} {rec' out' told' : List ℕ} → Held rec
    → Sends rec store (Information i) to rec' out' told' → (m : Message) → ToSend m rec' → m.place ≡ i.place → CarriesMessage store i to m
unfolding carried_in
carries_message {store = store} {i = i} {rec' = rec'} p c m h e =
    let o = sends_outgoing p c in
    let k = o.proper.carries in
    let same : k.message ≡ m = same_place (station_in rec').sends o.places m k.message h k.there (k.same_place ∙ sym e) in
    let long : i.length ≡ m.length = sym k.same_length ∙ ap (λ (x : Message). x.length) same in
    let good = o.list.each_good m h in
    record {
      to_other = sym k.same_other ∙ ap (λ (x : Message). x.other) same;
      same_priority = sym k.same_priority ∙ ap (λ (x : Message). x.priority) same;
      same_channel = sym k.same_channel ∙ ap (λ (x : Message). x.channel) same;
      same_length = long;
      place_fits = place_fits (length store) i.place i.length (sends_from_store p c i refl) (omega (arith, e, good.place_fits)) (omega (arith, long, good.length_fits));
      payload = ap (λ (x : ℕ). in_place store x i.length) (sym e) ∙ ap (in_place store m.place) long;
    }

pub sends_its_message : {rec store : List ℕ} {i : InformationFrame} {to : ℕ} {rec' out' told' : List ℕ} → Held rec
    → Sends rec store (Information i) to rec' out' told' → OfMessage rec' store i to
sends_its_message p c =
    let k = (sends_outgoing p c).proper.carries in
    record { message = k.message; stands = k.there; is_its = carries_message p c k.message k.there k.same_place }

-- ---- the theorem: from the queue call, over any calls while the message stands, to a frame of it, first or again

pub queued_carried : {rec : List ℕ} → Held rec → (store : List ℕ) (q : Request) (payload rec₁ store₁ rec₂ store₂ : List ℕ) → q.length ≡ length payload
    → Queueing rec store q payload 0 rec₁ store₁ → (m : Message) → m ≡ new_message (station_in rec) q → While (ToSend m) rec₁ store₁ rec₂ store₂
    → (i : InformationFrame) (to : ℕ) (rec₃ out' told' : List ℕ) → Sends rec₂ store₂ (Information i) to rec₃ out' told' → ToSend m rec₃
    → m.place ≡ i.place → (p₂ : Held rec₂) {other : List ℕ} (o : Held other) → made_of p₂ ≡ made_of o
    → CarriesQueued (ring_in other) q payload i to out' told'
queued_carried {rec} p store q payload rec₁ store₁ rec₂ store₂ l n m e w i to rec₃ out' told' c h k p₂ o same =
    let p₁ : Held rec₁ = by_queue rec store q payload 0 rec₁ store₁ p n in
    let put = queue_puts p store q payload rec₁ store₁ l n in
    let t = carries_message p₂ c m h k in
    record {
      to_asked = t.to_other ∙ ap (λ (x : Message). x.other) e;
      priority_asked = t.same_priority ∙ ap (λ (x : Message). x.priority) e;
      channel_asked = t.same_channel ∙ ap (λ (x : Message). x.channel) e;
      length_is = t.same_length ∙ ap (λ (x : Message). x.length) e ∙ l;
      payload_read =
          (sends_conveyed p₂ c o same).on_wire.part
          ∙ t.payload
          ∙ to_send_stays m p₁ w
          ∙ ap (send_payload store₁) e
          ∙ put.holds;
    }
