-- "A driver that leaves its record alone never sees 35": a record made by rtep_make and changed by no other than the calls is whole
-- ever after, and each call acts as its rule on the station that the record holds. Assumes nothing.
use mathlib.Core.Path.{◌≡◌, refl, sym, ap, subst, ◌∙◌}
use mathlib.Core.Bool.{Bool, true, false, cond}
use mathlib.Core.List.{List}
use Prim.Native.Nat.{ℕ}
use lib.Dec.{eqb}
use lib.ListN.{length}
use Rattle.codec.specs.Octets.{Octets}
use Rattle.packet_codec.specs.Packet.{kept, read_packet}
use Rattle.codec.specs.Ring.{Ring, read_ring, position}
use Rattle.packet_codec.specs.declared.reading.Read.{Read}
use Rattle.packet_codec.specs.declared.reading.Read.TheVariants.{Refused, Good}
use Rattle.parts.specs.Frames.{fit}
use Rattle.station.specs.Stations.{answered, moved, unless}
use Rattle.station.specs.declared.station.Station.{Station}
use Rattle.station.specs.declared.station.Answer.{Answer}
use Rattle.station_theorems.specs.Shaped.{WholeStation}
use Rattle.station_theorems.specs.Small.{Small}
use Rattle.station_theorems.proofs.Laws.Small.{pick_keeps}
use Rattle.station_theorems.proofs.Theorems.StaysSmall.{start_keeps_small, frame_small, timer_small, queue_small, take_small, made_small}
use Rattle.station_theorems.proofs.Theorems.MadeWhole.{made_whole}
use Rattle.station_theorems.proofs.Theorems.Reached.{calls_keep_whole}
use Rattle.records.specs.Record.{record_octets, read_record}
use Rattle.record_theorems.specs.Typed.{Typed}
use Rattle.record_theorems.specs.RoundTrip.{ReadsAs}
use Rattle.record_theorems.proofs.Theorems.ReadWrite.{read_after_write}
use Rattle.record_theorems.proofs.Theorems.Anew.{read_anew}
use Rattle.parts.specs.declared.request.Request.{Request}
use Rattle.driver_buffers.specs.Packets.{frame_of}
use Rattle.driver_calls.specs.Calls.{members_of, ring_in, station_in, record_with, made_from, Making, start_answer, timer_answer, frame_answer, queue_answer, take_answer, heard_then, packet_rule}
use Rattle.driver_theorems.specs.Held.{Held, Sure, by_make, by_start, by_frame, by_timer, by_queue, by_take, Made, Keeps}
use Rattle.driver_theorems.proofs.Laws.WholeTyped.{whole_typed}
use Rattle.driver_theorems.proofs.Laws.HeardFrames.{heard_fit}
use Rattle.driver_theorems.proofs.Laws.MadeRecords.{good_making, laid_whole, length_record, members_count}

-- ---- a record in a driver's hands: made, and then changed by calls alone, whatever number they give

-- ---- what is known of it

sure_of : (rec : List ℕ) (r : Ring) (s : Station) → ReadsAs rec r s → WholeStation s → Small r.n r.limit s → Sure rec
sure_of rec r s a w k =
    record {
      ok = a.ok;
      whole = subst WholeStation (sym a.station) w;
      small = subst (λ (q : Ring). Small q.n q.limit (station_in rec)) (sym a.ring) (subst (Small r.n r.limit) (sym a.station) k);
    }

-- another whole station of the same ring is written over it
pub anew_reads : (rec : List ℕ) (s : Station) → Sure rec → WholeStation s → Small (read_record rec).ring.n (read_record rec).ring.limit s
    → ReadsAs (record_with rec s) (read_record rec).ring s
anew_reads rec s h w k =
    let r : Ring = (read_record rec).ring in
    read_anew rec s h.ok (record { n_same = k.n_is; limit_same = k.limit_is }) w.is_whole (whole_typed r.n r.limit s w k)

anew : (rec : List ℕ) (s : Station) → Sure rec → WholeStation s → Small (read_record rec).ring.n (read_record rec).ring.limit s → Sure (record_with rec s)
anew rec s h w k = sure_of (record_with rec s) (read_record rec).ring s (anew_reads rec s h w k) w k

-- on a refusal it stays
after_call : (rec rec' : List ℕ) (r : ℕ) (s : Station) → Sure rec → rec' ≡ kept r rec (record_with rec s) → WholeStation s
    → Small (read_record rec).ring.n (read_record rec).ring.limit s → Sure rec'
after_call rec rec' r s h e w k = subst Sure (sym e) (go (eqb r 0))
  where
    go : (b : Bool) → Sure (cond b (record_with rec s) rec)
    go true = anew rec s h w k
    go false = h

-- ---- the calls

pub made_reads : (rec file : List ℕ) (own : ℕ) (rec' : List ℕ) → Making rec file own 0 rec' → Made file own rec'
made_reads rec file own rec' m =
    let g = good_making rec file own (sym m.answer) in
    let r : Ring = (read_ring file).ring in
    let s : Station = made_from file own in
    let w : WholeStation s = made_whole r.n r.limit (position (members_of r) own) g.some_members g.most_members g.some_retry g.most_retries g.member in
    let k : Small r.n r.limit s = made_small r.n r.limit (position (members_of r) own) in
    let t : Typed s = whole_typed r.n r.limit s w k in
    let read : ReadsAs (record_octets file s) r s = read_after_write file s g.good (record { n_same = refl; limit_same = refl }) w.is_whole t in
    let e : rec' ≡ record_octets file s = m.record_is ∙ laid_whole rec (record_octets file s) (g.sized ∙ sym (length_record file s g.good t)) in
    record { reads = subst (λ (x : List ℕ). ReadsAs x r s) (sym e) read; good_file = g.good; whole = w; small = k }

made_sure : (rec file : List ℕ) (own : ℕ) (rec' : List ℕ) → Making rec file own 0 rec' → Sure rec'
made_sure rec file own rec' m =
    let d = made_reads rec file own rec' m in
    sure_of rec' (read_ring file).ring (made_from file own) d.reads d.whole d.small

-- a heard packet is refused, or its frame is fit and of small numbers
read_sure : (rec : List ℕ) → Sure rec → (from to : ℕ) (packet : List ℕ) → Octets packet → (d : Read) → read_packet (ring_in rec) packet ≡ d
    → Keeps rec (heard_then (station_in rec) (ring_in rec) from to d)
read_sure rec h from to packet o (Refused why) e = (h.whole, h.small)
read_sure rec h from to packet o (Good p) e =
    let s : Station = station_in rec in
    let f = heard_fit (ring_in rec) packet p o e in
    let n : length (ring_in rec) ≡ s.n = members_count rec s h.ok h.small.n_is in
    let fits : fit s.n (frame_of (ring_in rec) p) ≡ true = ap (λ (k : ℕ). fit k (frame_of (ring_in rec) p)) (sym n) ∙ f.fits in
    ((calls_keep_whole s h.whole).frame (frame_of (ring_in rec) p) from to fits, frame_small _ _ s (frame_of (ring_in rec) p) from to h.small f.small)

pub frame_sure : (rec : List ℕ) → Sure rec → (from to : ℕ) (packet : List ℕ) → Octets packet → Keeps rec (frame_answer rec from to packet)
unfolding packet_rule moved unless
frame_sure rec h from to packet o =
    let same : Keeps rec (answered (station_in rec) 0) = (h.whole, h.small) in
    let read = read_sure rec h (position (ring_in rec) from) (position (ring_in rec) to) packet o (read_packet (ring_in rec) packet) refl in
    pick_keeps (Keeps rec) _ _ _ (pick_keeps (Keeps rec) _ _ _ read same) same

pub start_sure : (rec : List ℕ) → Sure rec → Keeps rec (start_answer rec)
start_sure rec h = ((calls_keep_whole _ h.whole).start, start_keeps_small _ _ _ h.small)

pub timer_sure : (rec : List ℕ) → Sure rec → Keeps rec (timer_answer rec)
timer_sure rec h = ((calls_keep_whole _ h.whole).timer, timer_small _ _ _ h.small)

pub queue_sure : (rec : List ℕ) → Sure rec → (q : Request) → Keeps rec (queue_answer rec q)
queue_sure rec h q = ((calls_keep_whole _ h.whole).queue q, queue_small _ _ _ q h.small)

pub take_sure : (rec : List ℕ) → Sure rec → (channel : ℕ) (room : List ℕ) → Keeps rec (take_answer rec channel room)
take_sure rec h channel room =
    ((calls_keep_whole _ h.whole).take channel (length room), take_small _ _ _ channel (length room) h.small)

after_keeping : (rec rec' : List ℕ) (r : ℕ) (a : Answer) → Sure rec → Keeps rec a → rec' ≡ kept r rec (record_with rec a.station) → Sure rec'
after_keeping rec rec' r a h k e = after_call rec rec' r a.station h e k.0 k.1

pub held_sure : {rec : List ℕ} → Held rec → Sure rec
held_sure (by_make rec file own rec' m) = made_sure rec file own rec' m
held_sure (by_start rec out told r rec' out' told' p m) =
    let h = held_sure p in
    after_keeping rec rec' r (start_answer rec) h (start_sure rec h) m.record_is
held_sure (by_frame rec store from to packet out told r rec' store' out' told' p o m) =
    let h = held_sure p in
    after_keeping rec rec' r (frame_answer rec from to packet) h (frame_sure rec h from to packet o) m.sending.record_is
held_sure (by_timer rec store out told r rec' out' told' p m) =
    let h = held_sure p in
    after_keeping rec rec' r (timer_answer rec) h (timer_sure rec h) m.record_is
held_sure (by_queue rec store q payload r rec' store' p m) =
    let h = held_sure p in
    after_keeping rec rec' r (queue_answer rec q) h (queue_sure rec h q) m.record_is
held_sure (by_take rec store channel room told r rec' room' told' p m) =
    let h = held_sure p in
    after_keeping rec rec' r (take_answer rec channel room) h (take_sure rec h channel room) m.record_is
