-- A node of a cell: what is kept of it from call to call, and what each call makes of it. Assumes nothing.
use mathlib.Core.Path.{◌≡◌, refl, sym, ap, subst, ◌∙◌}
use mathlib.Core.Bool.{Bool, true, false, cond}
use mathlib.Core.List.{List}
use Prim.Native.Nat.{ℕ}
use lib.Dec.{eqb}
use borrow.Author.Tests.{eqb-true, eqb-false}
use lib.ListN.{length, get_or}
use Rattle.codec.specs.Octets.{Octets}
use Rattle.codec.specs.Ring.{position, read_ring}
use Rattle.packet_codec.specs.Packet.{kept}
use Rattle.parts.specs.declared.frame.Frame.{Frame}
use Rattle.std.specs.Prelude.{Option, None, Some}
use Rattle.parts.specs.declared.list.Message.{Message}
use Rattle.parts.specs.declared.request.Request.{Request}
use Rattle.station.specs.Heard.{frame_rule}
use Rattle.station.specs.Queue.{queue_rule}
use Rattle.station.specs.declared.station.Answer.{Answer}
use Rattle.records.specs.Layout.{store_length}
use Rattle.driver_buffers.specs.Packets.{sent_size}
use Rattle.driver_buffers.specs.Places.{received, queued}
use Rattle.driver_calls.specs.Calls.{ring_in, ring_kept, ring_of, station_in, record_with, frame_answer, Hearing, Queueing}
use Rattle.driver_theorems.specs.Held.{Held, Sure, Keeps, by_frame, by_queue}
use Rattle.driver_theorems.proofs.Theorems.Held.{held_sure, anew_reads, frame_sure, queue_sure}
use Rattle.wire_theorems.specs.Wire.{OnWire, Conveyed, on_frame, made_of}
use Rattle.wire_theorems.proofs.Laws.Rings.{ring_made, ring_is}
use Rattle.wire_theorems.proofs.Laws.Laid.{length_put}
use Rattle.wire_theorems.proofs.Theorems.Conveyed.{sends_conveyed, heard_as_sent}
use Rattle.cell_theorems.specs.Cell.{Node, Transit, FrameCall}
use Rattle.cell_theorems.proofs.Laws.Octets.{kept_octets, heard_octets, queued_octets}
use Rattle.cell_theorems.proofs.Laws.Calls.{own_number, store_good, buffers_good, same_heard, refused_stays}

-- its record is in a driver's hands, and was made of the file; its store is of 47,744 octets
pub record Kept (file : List ℕ) (node : Node) : Type 0 where
  pub held : Held node.rec
  pub of_file : made_of held ≡ file
  pub store_long : length node.store ≡ store_length
  pub store_octets : Octets node.store

pub kept_ring : {file : List ℕ} {node : Node} → Kept file node → ring_in node.rec ≡ ring_of file
kept_ring k = ring_is k.held ∙ ap ring_of k.of_file

pub kept_whole : {file : List ℕ} {node : Node} → Kept file node → ring_kept node.rec ≡ (read_ring file).ring
kept_whole k = ring_made k.held ∙ ap (λ (x : List ℕ). (read_ring x).ring) k.of_file

-- ---- stores

kept_long : (r : ℕ) (old new : List ℕ) → length new ≡ length old → length (kept r old new) ≡ length old
kept_long r old new e = go (eqb r 0)
  where
    go : (b : Bool) → length (cond b new old) ≡ length old
    go true = e
    go false = refl

heard_long : (store info : List ℕ) (d : Option Message) → length (received store d info) ≡ length store
unfolding received
heard_long store info None = refl
heard_long store info (Some m) = length_put store _ info

queued_long : (store info : List ℕ) (d : Option Message) → length (queued store d info) ≡ length store
unfolding queued
queued_long store info None = refl
queued_long store info (Some m) = length_put store _ info

-- ---- records

-- a call that is done leaves what is new
pub kept_new : (r : ℕ) (old new : List ℕ) → r ≡ 0 → kept r old new ≡ new
kept_new r old new z = ap (λ (n : ℕ). kept n old new) z

-- and the station of its answer
pub done_station : (rec rec' : List ℕ) (r : ℕ) (a : Answer) → Sure rec → Keeps rec a → rec' ≡ kept r rec (record_with rec a.station) → r ≡ 0
    → station_in rec' ≡ a.station
done_station rec rec' r a h k e z =
    ap station_in (e ∙ kept_new r rec (record_with rec a.station) z) ∙ (anew_reads rec a.station h k.0 k.1).station

-- ---- the packet on the wire is handed to its call

module _
    {file : List ℕ} {node after : Node} (k : Kept file node) (w : Transit) (octets : Octets w.octets) (f : Frame) (info : List ℕ)
    (on_wire : OnWire (ring_of file) f info w.octets) (from to : ℕ) (from_is : position (ring_of file) w.from ≡ from)
    (to_is : position (ring_of file) w.to ≡ to) (call : FrameCall w node after)
  where
    abbrev rule : Answer
    rule = frame_rule (station_in node.rec) f from to

    abbrev given : Answer
    given = frame_answer node.rec w.from w.to w.octets

    given_is : given ≡ rule
    given_is =
        let e : ring_in node.rec ≡ ring_of file = kept_ring k in
        heard_as_sent node.rec f info w.octets (subst (λ (r : List ℕ). OnWire r f info w.octets) (sym e) on_wire) w.from w.to
        ∙ same_heard (station_in node.rec) f _ _
        ∙ ap (λ (p : ℕ). frame_rule (station_in node.rec) f p (position (ring_in node.rec) w.to)) (ap (λ (r : List ℕ). position r w.from) e ∙ from_is)
        ∙ ap (frame_rule (station_in node.rec) f from) (ap (λ (r : List ℕ). position r w.to) e ∙ to_is)

    pub frame_number : call.number ≡ rule.number
    frame_number =
        call.hears.sending.answer
        ∙ own_number _ node.rec given (buffers_good _ _ k.store_long call.lent.out_long) (held_sure k.held).ok
        ∙ ap (λ (a : Answer). a.number) given_is

    module _ (zero : rule.number ≡ 0) where
      done : call.number ≡ 0
      done = frame_number ∙ zero

      pub frame_station : station_in after.rec ≡ rule.station
      frame_station =
          done_station node.rec after.rec call.number given (held_sure k.held)
          (frame_sure node.rec (held_sure k.held) w.from w.to w.octets octets) call.hears.sending.record_is done
          ∙ ap (λ (a : Answer). a.station) given_is

      -- nobody who sends nothing tells a packet
      pub frame_silent : rule.sent ≡ None → get_or call.told 0 0 ≡ 0
      unfolding sent_size
      frame_silent e =
          ap (λ (l : List ℕ). get_or l 0 0) (call.hears.sending.told_is ∙ kept_new call.number call.lent.told _ done)
          ∙ ap (sent_size (ring_in node.rec)) (ap (λ (a : Answer). a.sent) given_is ∙ e)

      pub frame_conveys : (g : Frame) (on : ℕ) → rule.sent ≡ Some (g, on) → Conveyed (ring_of file) node.store g on call.out call.told
      frame_conveys g on e =
          let h = subst (λ (r : ℕ). Hearing node.rec node.store w.from w.to w.octets call.lent.out call.lent.told r after.rec after.store call.out call.told) done call.hears in
          subst (λ (r : List ℕ). Conveyed r node.store g on call.out call.told) (kept_ring k)
          (sends_conveyed k.held
          (on_frame node.rec node.store w.from w.to w.octets call.lent.out call.lent.told after.rec after.store call.out call.told g on octets h
          (ap (λ (a : Answer). a.sent) given_is ∙ e))
          k.held refl)

    pub frame_keeps : Kept file after
    frame_keeps =
        record {
          held = by_frame node.rec node.store w.from w.to w.octets call.lent.out call.lent.told call.number after.rec after.store call.out call.told k.held octets call.hears;
          of_file = k.of_file;
          store_long = ap length call.hears.store_is ∙ kept_long call.number node.store _ (heard_long node.store _ given.payload) ∙ k.store_long;
          store_octets =
              subst Octets (sym call.hears.store_is)
              (kept_octets call.number node.store _ k.store_octets (heard_octets node.store w.octets given.payload k.store_octets octets));
        }

-- ---- a queue call

module _
    {file : List ℕ} {node after : Node} (k : Kept file node) (q : Request) (payload : List ℕ) (number : ℕ)
    (call : Queueing node.rec node.store q payload number after.rec after.store)
  where
    abbrev asked : Answer
    asked = queue_rule (station_in node.rec) q

    pub queue_number_lem : number ≡ asked.number
    queue_number_lem = call.answer ∙ own_number _ node.rec asked (store_good _ k.store_long) (held_sure k.held).ok

    pub queue_station : station_in after.rec ≡ asked.station
    queue_station = go (eqb number 0) refl
      where
        go : (b : Bool) → eqb number 0 ≡ b → station_in after.rec ≡ asked.station
        go true e =
            done_station node.rec after.rec number asked (held_sure k.held) (queue_sure node.rec (held_sure k.held) q) call.record_is
            (eqb-true number 0 e)
        go false e =
            ap station_in (call.record_is ∙ ap (λ (b : Bool). cond b (record_with node.rec asked.station) node.rec) e)
            ∙ sym (refused_stays (station_in node.rec) q (λ z. eqb-false number 0 e (queue_number_lem ∙ z)))

    pub queue_keeps : Octets payload → Kept file after
    queue_keeps o =
        record {
          held = by_queue node.rec node.store q payload number after.rec after.store k.held call;
          of_file = k.of_file;
          store_long = ap length call.store_is ∙ kept_long number node.store _ (queued_long node.store payload asked.payload) ∙ k.store_long;
          store_octets =
              subst Octets (sym call.store_is)
              (kept_octets number node.store _ k.store_octets (queued_octets node.store asked.payload payload k.store_octets o));
        }
