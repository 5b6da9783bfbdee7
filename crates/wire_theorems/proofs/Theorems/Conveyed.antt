-- "What a station sends, every other member reads as that frame": of a held record's calls, whatever they are handed. Assumes nothing.
use mathlib.Core.Path.{◌≡◌, refl, sym, ap, subst, ◌∙◌}
use mathlib.Core.Bool.{Bool, true, false}
use mathlib.Core.List.{List, []}
use Prim.Native.Nat.{ℕ, ◌<◌}
use native.Mathlib.Omega.{arith}
use lib.Dec.{eqb}
use lib.ListN.{length, take, get_or}
use Rattle.codec.specs.Octets.{laid}
use Rattle.codec.specs.Ring.{position}
use Rattle.codec.proofs.Laws.Octets.{laid_start}
use Rattle.packet_codec.specs.Packet.{size, packet_octets, information_length}
use Rattle.packet_codec.specs.declared.packet.Packet.{Packet}
use Rattle.packet_codec.specs.declared.reading.Read.{Read}
use Rattle.parts.specs.Choose.{pick}
use Rattle.parts.specs.Frames.{fit, Dispatch}
use Rattle.parts.specs.Moves.{move_of, runs}
use Rattle.parts.specs.declared.moves.Event.TheVariants.{Heard}
use Rattle.parts.specs.declared.frame.TokenFrame.{TokenFrame}
use Rattle.parts.specs.declared.frame.InformationFrame.{InformationFrame}
use Rattle.parts.specs.declared.frame.Frame.{Frame}
use Rattle.parts.specs.declared.frame.Frame.TheVariants.{Token, Information}
use Rattle.std.specs.Prelude.{Some}
use Rattle.station.specs.Stations.{state_of, awaited_of, answered, moved, unless}
use Rattle.station.specs.Heard.{checks, frame_rule}
use Rattle.station.specs.declared.station.Station.{Station}
use Rattle.station.specs.declared.station.Answer.{Answer}
use Rattle.station_theorems.proofs.Theorems.Awaited.{is_fit}
use Rattle.records.specs.Layout.{store_length}
use Rattle.driver_buffers.specs.Packets.{address_of, packet_of, sent_octets, sent_size, sent_to}
use Rattle.driver_buffers.specs.Places.{carried_in, information_of}
use Rattle.driver_calls.specs.Calls.{ring_in, station_in, Sending, start_answer, timer_answer, frame_answer, heard_then, packet_rule}
use Rattle.driver_theorems.proofs.Theorems.Held.{held_sure, anew_reads, start_sure, frame_sure, timer_sure}
use Rattle.driver_theorems.specs.Held.{Keeps}
use Rattle.driver_theorems.specs.Held.{Held}
use Rattle.wire_theorems.specs.Wire.{GoodAddresses, OnWire, Conveyed, Sends, on_start, on_frame, on_timer, placeless, made_of}
use Rattle.wire_theorems.proofs.Laws.Rings.{held_addresses, same_ring}
use Rattle.wire_theorems.proofs.Laws.Sent.{AwaitsSent, outgoing, start_awaits, packet_awaits, timer_awaits, start_sends_token}
use Rattle.wire_theorems.specs.Wire.{Outgoing}
use Rattle.wire_theorems.proofs.Laws.Stores.{store_sized, carried_sized}
use Rattle.wire_theorems.proofs.Theorems.FitBoth.{fit_on_wire}

-- ---- an outgoing frame, whatever its information

outgoing_on_wire : (ring : List ℕ) → GoodAddresses ring → (s : Station) (f : Frame) (to : ℕ) → Outgoing ring s f to → (info : List ℕ)
    → length info ≡ information_length (packet_of ring f) → OnWire ring f info (packet_octets (packet_of ring f) info)
outgoing_on_wire ring g s f to o info l =
    fit_on_wire ring g f (ap (λ (n : ℕ). fit n f) o.members ∙ is_fit s.n f o.proper.fits_to_write) o.small info l

-- the frame that a held record's station awaits
pub awaited_on_wire : {rec : List ℕ} → Held rec → (f : Frame) (to : ℕ) → awaited_of (station_in rec) ≡ Some (f, to) → (info : List ℕ)
    → length info ≡ information_length (packet_of (ring_in rec) f) → OnWire (ring_in rec) f info (packet_octets (packet_of (ring_in rec) f) info)
awaited_on_wire {rec} p f to e info l =
    let h = held_sure p in
    let s : Station = station_in rec in
    outgoing_on_wire (ring_in rec) (held_addresses p) s f to (outgoing rec h (answered s 0) (h.whole, h.small) f to e) info l

-- ---- what a call that sends leaves

module _ (ring store : List ℕ) (f : Frame) (to : ℕ) where
  conveyed : {number : ℕ} {a : Answer} {info rec out told rec' out' told' : List ℕ} → Sending number a ring info rec out told 0 rec' out' told'
      → a.sent ≡ Some (f, to) → info ≡ carried_in store f → GoodAddresses ring → to < length ring
      → OnWire ring f (carried_in store f) (packet_octets (packet_of ring f) (carried_in store f)) → Conveyed ring store f to out' told'
  unfolding sent_octets sent_size sent_to
  conveyed {a = a} {info = info} {out = out} {out' = out'} {told' = told'} m e i g h w =
      let p : Packet = packet_of ring f in
      let x : List ℕ = packet_octets p (carried_in store f) in
      let sized : get_or told' 0 0 ≡ size p = ap (λ (l : List ℕ). get_or l 0 0) m.told_is ∙ ap (sent_size ring) e in
      let address : get_or told' 1 0 ≡ address_of ring to = ap (λ (l : List ℕ). get_or l 1 0) m.told_is ∙ ap (sent_to ring) e in
      let over : out' ≡ laid out 0 x =
      m.out_is ∙ ap (λ (d : Dispatch). laid out 0 (sent_octets ring d info)) e ∙ ap (λ (l : List ℕ). laid out 0 (packet_octets p l)) i in
      let start : take (get_or told' 0 0) out' ≡ x = ap (λ (n : ℕ). take n out') (sized ∙ sym w.sized) ∙ laid_start out out' x over in
      record {
        on_wire = subst (OnWire ring f (carried_in store f)) (sym start) w;
        told_length = sized;
        told_address = address;
        told_position = ap (position ring) address ∙ g.own to h;
      }

-- ---- the three calls, as one

record SendsBy (rec store : List ℕ) (f : Frame) (to : ℕ) (rec' out' told' : List ℕ) : Type 0 where
  by_answer : Answer
  number : ℕ
  info : List ℕ
  out : List ℕ
  told : List ℕ
  leaves : Sending number by_answer (ring_in rec) info rec out told 0 rec' out' told'
  sends : by_answer.sent ≡ Some (f, to)
  keeps : Keeps rec by_answer
  awaits : AwaitsSent by_answer
  carries : info ≡ carried_in store f
  store_good : (i : InformationFrame) → f ≡ Information i → length store ≡ store_length
  carries_all : Outgoing (ring_in rec) by_answer.station f to → length (carried_in store f) ≡ information_length (packet_of (ring_in rec) f)

token_not : {t : TokenFrame} {i : InformationFrame} → Token t ≡ Information i → ⊥
token_not e = let z : ◌≡◌ {A = ℕ} 0 1 = cc in omega arith

sends_by : {rec store : List ℕ} {f : Frame} {to : ℕ} {rec' out' told' : List ℕ} → Held rec → Sends rec store f to rec' out' told'
    → SendsBy rec store f to rec' out' told'
unfolding carried_in packet_of information_of
sends_by p (on_start rec store out told rec' out' told' f to m e) =
    let t = start_sends_token (station_in rec) f to e in
    let none : carried_in store f ≡ [] = ap (carried_in store) t.1 in
    record {
      by_answer = start_answer rec;
      number = _;
      info = [];
      out = out;
      told = told;
      leaves = m;
      sends = e;
      keeps = start_sure rec (held_sure p);
      awaits = start_awaits (station_in rec);
      carries = sym none;
      store_good = λ i q. absurd (token_not (sym t.1 ∙ q));
      carries_all = λ o. ap length none ∙ ap (λ (x : Frame). information_length (packet_of (ring_in rec) x)) (sym t.1);
    }
sends_by p (on_frame rec store from at packet out told rec' store' out' told' f to o m e) =
    record {
      by_answer = frame_answer rec from at packet;
      number = _;
      info = information_of store (frame_answer rec from at packet).sent;
      out = out;
      told = told;
      leaves = m.sending;
      sends = e;
      keeps = frame_sure rec (held_sure p) from at packet o;
      awaits = packet_awaits (station_in rec) (ring_in rec) from at packet;
      carries = ap (information_of store) e;
      store_good = λ i q. store_sized rec _ (length store) (length out) m.sending.answer;
      carries_all = λ k. carried_sized (ring_in rec) _ f to k store (store_sized rec _ (length store) (length out) m.sending.answer);
    }
sends_by p (on_timer rec store out told rec' out' told' f to m e) =
    record {
      by_answer = timer_answer rec;
      number = _;
      info = information_of store (timer_answer rec).sent;
      out = out;
      told = told;
      leaves = m;
      sends = e;
      keeps = timer_sure rec (held_sure p);
      awaits = timer_awaits (station_in rec);
      carries = ap (information_of store) e;
      store_good = λ i q. store_sized rec _ (length store) (length out) m.answer;
      carries_all = λ k. carried_sized (ring_in rec) _ f to k store (store_sized rec _ (length store) (length out) m.answer);
    }

module _ {rec store : List ℕ} {f : Frame} {to : ℕ} {rec' out' told' : List ℕ} (p : Held rec) (c : Sends rec store f to rec' out' told') where
  by_call : SendsBy rec store f to rec' out' told'
  by_call = sends_by p c

  after : Outgoing (ring_in rec) by_call.by_answer.station f to
  after = outgoing rec (held_sure p) by_call.by_answer by_call.keeps f to (by_call.awaits f to by_call.sends)

  -- an information frame is sent with a store of its length
  pub sends_from_store : (i : InformationFrame) → f ≡ Information i → length store ≡ store_length
  sends_from_store = by_call.store_good

  -- it is what the station of the record then awaits
  pub sends_outgoing : Outgoing (ring_in rec) (station_in rec') f to
  sends_outgoing =
      let k = by_call.keeps in
      let e : station_in rec' ≡ by_call.by_answer.station =
      ap station_in by_call.leaves.record_is ∙ (anew_reads rec by_call.by_answer.station (held_sure p) k.0 k.1).station in
      subst (λ (x : Station). Outgoing (ring_in rec) x f to) (sym e) after

  pub sends_conveyed : {other : List ℕ} (q : Held other) → made_of p ≡ made_of q → Conveyed (ring_in other) store f to out' told'
  sends_conveyed q same =
      let ring : List ℕ = ring_in rec in
      let g : GoodAddresses ring = held_addresses p in
      let w = outgoing_on_wire ring g by_call.by_answer.station f to after (carried_in store f) (by_call.carries_all after) in
      subst (λ (r : List ℕ). Conveyed r store f to out' told') (same_ring p q same)
      (conveyed ring store f to by_call.leaves by_call.sends by_call.carries g (omega (arith, after.members, after.proper.member)) w)

-- ---- and who hears these octets hears that frame

pub heard_as_sent : (other : List ℕ) (f : Frame) (info s : List ℕ) → OnWire (ring_in other) f info s → (from to : ℕ)
    → frame_answer other from to s ≡ frame_rule (station_in other) (placeless f) (position (ring_in other) from) (position (ring_in other) to)
unfolding packet_rule frame_rule moved unless pick
heard_as_sent other f info s w from to =
    ap (λ (d : Read). pick (eqb (move_of (state_of st) Heard) runs) (pick (eqb (checks st a b) 0) (heard_then st ring a b d) (answered st (checks st a b))) (answered st (move_of (state_of st) Heard)))
    w.reads
    ∙ ap (λ (g : Frame). pick (eqb (move_of (state_of st) Heard) runs) (pick (eqb (checks st a b) 0) (frame_rule st g a b) (answered st (checks st a b))) (answered st (move_of (state_of st) Heard)))
    w.frame
    ∙ twice (eqb (move_of (state_of st) Heard) runs) (eqb (checks st a b) 0) _ _ _
  where
    st : Station
    st = station_in other

    ring : List ℕ
    ring = ring_in other

    a : ℕ
    a = position (ring_in other) from

    b : ℕ
    b = position (ring_in other) to

    twice : (c d : Bool) (x y z : Answer) → pick c (pick d (pick c (pick d x y) z) y) z ≡ pick c (pick d x y) z
    twice true true x y z = refl
    twice true false x y z = refl
    twice false d x y z = refl
