-- The message's own packet carries the message: while it waits its payload stays in its node's store, and the packet is composed of that. Assumes nothing.
use mathlib.Core.Path.{◌≡◌, refl, sym, ap, subst, ◌∙◌}
use mathlib.Core.Bool.{Bool, true, false, cond}
use mathlib.Core.List.{List, [], ◌∷◌, ◌++◌, Memᴰ}
use Prim.Native.Nat.{ℕ, suc, ◌<◌}
use native.Mathlib.Omega.{arith}
use lib.Dec.{eqb}
use borrow.Author.Tests.{eqb-true, eqb-false}
use lib.ListN.{length, get_or}
use Rattle.codec.specs.Ring.{position}
use Rattle.packet_codec.specs.Packet.{information, information_in}
use Rattle.packet_codec.specs.declared.reading.Read.TheVariants.{Good}
use Rattle.parts.specs.Messages.{all, message_for}
use Rattle.parts.specs.declared.list.Message.{Message}
use Rattle.parts.specs.declared.frame.Frame.{Frame}
use Rattle.parts.specs.declared.frame.Frame.TheVariants.{Information}
use Rattle.parts.specs.declared.request.Request.{Request}
use Rattle.sent.specs.Round.{carrying, information_of}
use Rattle.station.specs.declared.station.Station.{Station}
use Rattle.driver_buffers.specs.Packets.{packet_of}
use Rattle.driver_buffers.specs.Places.{carried_in}
use Rattle.driver_calls.specs.Calls.{ring_of}
use Rattle.wire_theorems.specs.Wire.{OnWire}
use Rattle.wire_theorems.specs.Store.{ToSend, send_payload, by_frame, by_queue}
use Rattle.wire_theorems.proofs.Theorems.PayloadsStay.{payloads_stay}
use Rattle.bench.specs.Calls.{queue}
use Rattle.bench.specs.Delivery.{step}
use Rattle.bench.specs.Runs.{Event, stepped, queued, after_event, final}
use Rattle.bench.specs.declared.ring.Wire.{Wire}
use Rattle.bench.specs.declared.ring.Bench.{Bench}
use Rattle.bench_theorems.proofs.Laws.Delivering.{step_wire}
use Rattle.waiting.specs.Waiting.{Spot, own, goes, Waits}
use Rattle.waiting.proofs.Laws.Own.{goes_another}
use Rattle.cell_theorems.specs.Cell.{Node, Cell, members, address_at, HandedOn, Asking, QueueCall, Act, Run, done, hand_on, ask}
use Rattle.cell_theorems.specs.AsBench.{events, request_in}
use Rattle.cell_theorems.specs.Waiting.{own_in, ItsPacket, Either, OwnIs}
use Rattle.cell_theorems.proofs.Laws.Files.{ring_long}
use Rattle.cell_theorems.proofs.Laws.Matching.{Matches, frame_in, to_in, to_same, to_inside}
use Rattle.cell_theorems.proofs.Laws.Steps.{step_matches, step_store}
use Rattle.cell_theorems.proofs.Laws.Queues.{queue_matches}
use Rattle.cell_theorems.proofs.Laws.Waiting.{own_same}

-- the address at an address's position
address_again : (ring : List ℕ) (a : ℕ) → position ring a < length ring → get_or ring (position ring a) 0 ≡ a
unfolding position
address_again [] a h = absurd (omega (arith, h))
address_again (m ∷ ms) a h = go (eqb m a) refl h (address_again ms a)
  where
    go : (b : Bool) → eqb m a ≡ b → cond b 0 (suc (position ms a)) < suc (length ms) → (position ms a < length ms → get_or ms (position ms a) 0 ≡ a)
        → get_or (m ∷ ms) (cond b 0 (suc (position ms a))) 0 ≡ a
    go true e k rest = eqb-true m a e
    go false e k rest = rest (omega (arith, k))

-- ---- its payload stays in the store

module _ (file : List ℕ) (p : ℕ) (member : p < members file) (m : Message) where
  step_stays : (c c₁ : Cell) (b : Bench) → Matches file c b → HandedOn file c c₁ → ToSend m (c.node p).rec
      → send_payload (c₁.node p).store m ≡ send_payload (c.node p).store m
  step_stays c c₁ b k h t = go (eqb (address_at file p) c.wire.from) refl
    where
      go : (u : Bool) → eqb (address_at file p) c.wire.from ≡ u → send_payload (c₁.node p).store m ≡ send_payload (c.node p).store m
      go true e = ap (λ (x : Node). send_payload x.store m) (h.sender_stays p member (eqb-true _ _ e))
      go false e =
          let f = h.calls p member (eqb-false _ _ e) in
          (payloads_stay (k.kept p member).held (c.node p).store (c₁.node p).rec (c₁.node p).store
          (by_frame _ _ _ _ _ _ _ _ _ _ _ _ k.wire.octets f.hears)).to_send m t

  queue_stays : (c c₁ : Cell) (b : Bench) → Matches file c b → (a : Asking) → QueueCall file a c c₁ → ToSend m (c.node p).rec
      → send_payload (c₁.node p).store m ≡ send_payload (c.node p).store m
  queue_stays c c₁ b k a h t = go (eqb p a.at) refl
    where
      there : ToSend m (c.node a.at).rec → send_payload (c₁.node a.at).store m ≡ send_payload (c.node a.at).store m
      there t =
          (payloads_stay (k.kept a.at h.member).held (c.node a.at).store (c₁.node a.at).rec (c₁.node a.at).store
          (by_queue _ _ _ _ _ _ _ refl h.queues)).to_send m t

      go : (u : Bool) → eqb p a.at ≡ u → send_payload (c₁.node p).store m ≡ send_payload (c.node p).store m
      go true e =
          subst (λ (i : ℕ). ToSend m (c.node i).rec → send_payload (c₁.node i).store m ≡ send_payload (c.node i).store m) (sym (eqb-true _ _ e)) there t
      go false e = ap (λ (x : Node). send_payload x.store m) (h.others_stay p member (eqb-false _ _ e))

-- ---- what the bench says of a run: it waits until it goes, and what goes is its information frame

pub record Says (x : Spot) (m : Message) (b : Bench) (es : List Event) : Type 0 where
  pub waits : (before rest : List Event) → es ≡ before ++ rest → goes x b before ≡ false → Waits (final b before) x.station m
  pub goes_as : (before rest : List Event) → es ≡ before ++ (stepped ∷ rest) → goes x b before ≡ false → own x (step (final b before)).wire ≡ true
      → (number : ℕ) × ((step (final b before)).wire ≡ record { from = x.station; sent = information_of number m })

none_goes : (x : Spot) (b : Bench) → goes x b [] ≡ false
unfolding goes
none_goes x b = refl

module _ (x : Spot) (m : Message) (b : Bench) (es : List Event) where
  after_step : Says x m b (stepped ∷ es) → own x (step b).wire ≡ false → Says x m (step b) es
  unfolding final after_event
  after_step k o =
      record {
        waits = λ before rest e g. k.waits (stepped ∷ before) rest (ap (λ (l : List Event). stepped ∷ l) e) (goes_another x b before o ∙ g);
        goes_as = λ before rest e g w. k.goes_as (stepped ∷ before) rest (ap (λ (l : List Event). stepped ∷ l) e) (goes_another x b before o ∙ g) w;
      }

  after_queue : (p : ℕ) (q : Request) → Says x m b (queued p q ∷ es) → Says x m (queue b p q).bench es
  unfolding final after_event goes
  after_queue p q k =
      record {
        waits = λ before rest e g. k.waits (queued p q ∷ before) rest (ap (λ (l : List Event). queued p q ∷ l) e) g;
        goes_as = λ before rest e g w. k.goes_as (queued p q ∷ before) rest (ap (λ (l : List Event). queued p q ∷ l) e) g w;
      }

  step_waits : Says x m b (stepped ∷ es) → own x (step b).wire ≡ false → Waits (step b) x.station m
  unfolding final after_event
  step_waits k o = k.waits (stepped ∷ []) es refl (goes_another x b [] o ∙ none_goes x (step b))

  queue_waits : (p : ℕ) (q : Request) → Says x m b (queued p q ∷ es) → Waits (queue b p q).bench x.station m
  unfolding final after_event goes
  queue_waits p q k = k.waits (queued p q ∷ []) es refl refl

  own_goes : Says x m b (stepped ∷ es) → own x (step b).wire ≡ true → (number : ℕ) × ((step b).wire ≡ record { from = x.station; sent = information_of number m })
  unfolding final
  own_goes k o = k.goes_as [] es refl (none_goes x b) o

-- ---- the packet

either_of : (t : Bool) (A B : Type 0) → (t ≡ true → A) → (t ≡ false → B) → Either t A B
either_of true A B f g = f refl
either_of false A B f g = g refl

module _
    (file : List ℕ) (x : Spot) (member : x.station < members file) (a : Asking) (at_is : x.station ≡ a.at) (m : Message)
    (asked : m ≡ message_for (request_in file a) m.place)
  where
    its_packet : (c c₁ : Cell) (b : Bench) → Matches file c b → HandedOn file c c₁ → send_payload (c.node x.station).store m ≡ a.payload → (number : ℕ)
        → (step b).wire ≡ record { from = x.station; sent = information_of number m } → ItsPacket file a c₁.wire
    unfolding packet_of carried_in
    its_packet c c₁ b k h holds number e =
        let j = step_matches file c c₁ b k h in
        let w = j.wire in
        let f : Frame = Information (carrying number m) in
        let frame_is : w.frame ≡ f = ap (frame_in f) (sym w.frame_is ∙ ap (λ (v : Wire). v.sent) e) in
        let to_is : w.to ≡ m.other = ap (to_in 0) (sym w.frame_is ∙ ap (λ (v : Wire). v.sent) e) in
        let other : m.other ≡ position (ring_of file) a.to = ap (λ (y : Message). y.other) asked in
        let long : m.length ≡ length a.payload = ap (λ (y : Message). y.length) asked in
        let addressee : k.quiet.to ≡ x.station = ap (λ (v : Wire). v.from) (sym (step_wire b k.quiet) ∙ e) in
        let store_is : j.store ≡ (c.node x.station).store = step_store file c c₁ b k h ∙ ap (λ (i : ℕ). (c.node i).store) addressee in
        let on : OnWire (ring_of file) f (carried_in j.store f) c₁.wire.octets =
        subst (λ (g : Frame). OnWire (ring_of file) g (carried_in j.store g) c₁.wire.octets) frame_is w.on_wire in
        record {
          from_node = w.from_address ∙ ap (address_at file) (ap (λ (v : Wire). v.from) e ∙ at_is);
          to_asked =
              w.to_address
              ∙ ap (address_at file) (to_is ∙ other)
              ∙ address_again (ring_of file) a.to (omega (arith, ring_long file j.good, to_inside j, to_same j, to_is, other));
          number = number;
          reads =
              on.reads
              ∙ ap (λ (y : Message). Good (information y.priority number y.channel y.length)) asked;
          payload =
              ap (information_in c₁.wire.octets) (sym long)
              ∙ on.part
              ∙ ap (λ (l : List ℕ). send_payload l m) store_is
              ∙ holds;
        }

    pub own_packet : {c : Cell} {b : Bench} {acts : List Act} {c' : Cell} → Matches file c b → (r : Run file c acts c') → Says x m b (events file acts)
        → ToSend m (c.node x.station).rec → send_payload (c.node x.station).store m ≡ a.payload → OwnIs x a r
    unfolding OwnIs events
    own_packet k (done c) says t holds = tt
    own_packet {b = b} k (hand_on c c₁ c' acts h r) says t holds =
        let j = step_matches file c c₁ b k h in
        let same : own_in file x c₁ ≡ own x (step b).wire = own_same file x member j in
        either_of (own_in file x c₁) (ItsPacket file a c₁.wire) (OwnIs x a r)
        (λ o. let g = own_goes x m b (events file acts) says (sym same ∙ o) in its_packet c c₁ b k h holds g.0 g.1)
        (λ o.
        own_packet j r (after_step x m b (events file acts) says (sym same ∙ o))
        (subst (λ (s : Station). Memᴰ m (all s.sends)) (sym (j.stations x.station member)) (step_waits x m b (events file acts) says (sym same ∙ o)).listed)
        (step_stays file x.station member m c c₁ b k h t ∙ holds))
    own_packet {b = b} k (ask c c₁ c' a' acts q r) says t holds =
        let j = queue_matches file c c₁ b k a' q in
        own_packet j r (after_queue x m b (events file acts) a'.at (request_in file a') says)
        (subst (λ (s : Station). Memᴰ m (all s.sends)) (sym (j.stations x.station member)) (queue_waits x m b (events file acts) a'.at (request_in file a') says).listed)
        (queue_stays file x.station member m c c₁ b k a' q t ∙ holds)
