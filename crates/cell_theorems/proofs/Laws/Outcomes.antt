-- Each call has an outcome: its contract says what it leaves. So a cell of any good ring file starts, and runs on. Assumes nothing.
use mathlib.Core.Path.{◌≡◌, refl, sym, ap, subst, ◌∙◌}
use mathlib.Core.List.{List, []}
use Prim.Native.Nat.{ℕ, zero, suc, ◌<◌}
use native.Mathlib.Omega.{arith}
use lib.Dec.{eqb}
use borrow.Author.Tests.{eq-eqb, ne_eqb}
use lib.ListN.{length}
use Rattle.codec.specs.Octets.{Octets, zeros, laid}
use Rattle.codec.specs.Ring.{read_ring, position}
use Rattle.codec.proofs.Laws.Octets.{length_zeros}
use Rattle.packet_codec.specs.Packet.{longest_packet, kept}
use Rattle.parts.specs.Choose.{pick}
use Rattle.parts.proofs.Laws.Choose.{pick_true, pick_false}
use Rattle.parts.specs.declared.request.Request.{Request}
use Rattle.station.specs.declared.station.Answer.{Answer}
use Rattle.records.specs.Layout.{record_length, store_length}
use Rattle.records.specs.Record.{record_octets}
use Rattle.driver_buffers.specs.Packets.{sent_octets}
use Rattle.driver_buffers.specs.Places.{information_of, queued}
use Rattle.driver_buffers.specs.Telling.{told_of}
use Rattle.driver_calls.specs.Calls.{ring_of, ring_in, ring_kept, call_number, bad_out, bad_store, bad_buffers, record_with, make_number, made_from, start_answer, frame_answer, queue_answer, store_heard, request_of, Making, Sending, Hearing, Queueing}
use Rattle.rtep.specs.Sizes.{told_numbers}
use Rattle.cell_theorems.specs.Cell.{Node, Transit, Cell, members, address_at, Lent, left, Begun, Started, HandedOn, Asking, QueueCall, Run, done, hand_on}
use Rattle.cell_theorems.specs.Waiting.{handings}
use Rattle.cell_theorems.proofs.Laws.Octets.{zeros_octets}
use Rattle.cell_theorems.proofs.Laws.Files.{position_is}

-- memory of zeros to lend
lent : Lent
lent =
    record {
      out = zeros longest_packet;
      told = zeros told_numbers;
      out_long = omega (arith, length_zeros longest_packet);
      told_long = length_zeros told_numbers;
    }

-- ---- what a call that may send leaves

record Leaves (number : ℕ) (a : Answer) (ring info rec : List ℕ) : Type 0 where
  rec' : List ℕ
  out' : List ℕ
  told' : List ℕ
  sending : Sending number a ring info rec lent.out lent.told number rec' out' told'

leaves : (number : ℕ) (a : Answer) (ring info rec : List ℕ) → Leaves number a ring info rec
leaves number a ring info rec =
    record {
      rec' = kept number rec (record_with rec a.station);
      out' = kept number lent.out (laid lent.out 0 (sent_octets ring a.sent info));
      told' = kept number lent.told (laid lent.told 0 (told_of ring a.sent a.struck a.gone));
      sending = record { answer = refl; record_is = refl; out_is = refl; told_is = refl };
    }

-- ---- make and start

module _ (file : List ℕ) (p : ℕ) where
  blank : List ℕ
  blank = zeros record_length

  number : ℕ
  number = make_number blank file (address_at file p)

  made : List ℕ
  made = kept number blank (laid blank 0 (record_octets file (made_from file (address_at file p))))

  making : Making blank file (address_at file p) number made
  unfolding number made
  making = record { answer = refl; record_is = refl }

  start : Leaves (call_number (bad_out (length lent.out)) made (start_answer made)) (start_answer made) (ring_in made) [] made
  start = leaves _ _ _ _ _

  begun_node : Node
  begun_node = record { rec = start.rec'; store = zeros store_length }

  begins : Begun file p begun_node
  unfolding begun_node blank
  begins =
      record {
        blank = blank;
        blank_long = length_zeros record_length;
        make_number = number;
        made = made;
        makes = making;
        lent = lent;
        number = call_number (bad_out (length lent.out)) made (start_answer made);
        out = start.out';
        told = start.told';
        starts = start.sending;
        store_long = length_zeros store_length;
        store_octets = zeros_octets store_length;
      }

pub started_cell : List ℕ → Cell
started_cell file = record { node = begun_node file; wire = left (address_at file 0) (begins file 0).out (begins file 0).told }

pub starts : (file : List ℕ) → (read_ring file).number ≡ 0 → Started file (started_cell file)
unfolding started_cell
starts file good = record { good = good; begun = λ p h. begins file p; first = λ h. refl }

-- ---- frame

module _ (w : Transit) (node : Node) where
  abbrev given : Answer
  given = frame_answer node.rec w.from w.to w.octets

  heard : Leaves (call_number (bad_buffers (length node.store) (length lent.out)) node.rec given) given (ring_in node.rec) (information_of node.store given.sent) node.rec
  heard = leaves _ _ _ _ _

  abbrev heard_number : ℕ
  heard_number = call_number (bad_buffers (length node.store) (length lent.out)) node.rec given

  heard_node : Node
  heard_node = record { rec = heard.rec'; store = kept heard_number node.store (store_heard node.store w.octets given.payload) }

  hearing : Hearing node.rec node.store w.from w.to w.octets lent.out lent.told heard_number heard_node.rec heard_node.store heard.out' heard.told'
  unfolding heard_node
  hearing = record { sending = heard.sending; store_is = refl }

module _ (file : List ℕ) (c : Cell) where
  next_node : ℕ → Node
  next_node p = pick (eqb (address_at file p) c.wire.from) (c.node p) (heard_node c.wire (c.node p))

  left_by : ℕ → Transit
  left_by p = left (address_at file p) (heard c.wire (c.node p)).out' (heard c.wire (c.node p)).told'

  pub next_cell : Cell
  next_cell = record { node = next_node; wire = left_by (position (ring_of file) c.wire.to) }

  pub hands_on : (read_ring file).number ≡ 0 → HandedOn file c next_cell
  unfolding next_cell next_node left_by
  hands_on good =
      record {
        calls = λ p h o.
            record {
              lent = lent;
              number = heard_number c.wire (c.node p);
              out = (heard c.wire (c.node p)).out';
              told = (heard c.wire (c.node p)).told';
              hears =
                  subst (λ (x : Node). Hearing (c.node p).rec (c.node p).store c.wire.from c.wire.to c.wire.octets lent.out lent.told (heard_number c.wire (c.node p)) x.rec x.store (heard c.wire (c.node p)).out' (heard c.wire (c.node p)).told')
                  (sym (pick_false _ _ (ne_eqb _ _ o))) (hearing c.wire (c.node p));
            };
        sender_stays = λ p h e. pick_true _ _ (eq-eqb _ _ e);
        answers = λ p h o e. ap left_by (ap (position (ring_of file)) (sym e) ∙ position_is file good p h);
      }

-- ---- queue

module _ (node : Node) (q : Request) (payload : List ℕ) where
  abbrev queue_number : ℕ
  queue_number = call_number (bad_store (length node.store)) node.rec (queue_answer node.rec q)

  queued_node : Node
  queued_node =
      record {
        rec = kept queue_number node.rec (record_with node.rec (queue_answer node.rec q).station);
        store = kept queue_number node.store (queued node.store (queue_answer node.rec q).payload payload);
      }

  queueing : Queueing node.rec node.store q payload queue_number queued_node.rec queued_node.store
  unfolding queued_node
  queueing = record { answer = refl; record_is = refl; store_is = refl }

module _ (file : List ℕ) (c : Cell) (a : Asking) where
  abbrev asks : Request
  asks = request_of (ring_kept (c.node a.at).rec) a.to a.priority a.channel (length a.payload)

  asked_node : ℕ → Node
  asked_node p = pick (eqb p a.at) (queued_node (c.node a.at) asks a.payload) (c.node p)

  pub asked_cell : Cell
  asked_cell = record { node = asked_node; wire = c.wire }

  pub asks_it : a.at < members file → Octets a.payload → QueueCall file a c asked_cell
  unfolding asked_cell asked_node
  asks_it h o =
      record {
        member = h;
        payload_octets = o;
        number = queue_number (c.node a.at) asks a.payload;
        queues =
            subst (λ (x : Node). Queueing (c.node a.at).rec (c.node a.at).store asks a.payload (queue_number (c.node a.at) asks a.payload) x.rec x.store)
            (sym (pick_true _ _ (eq-eqb a.at a.at refl))) (queueing (c.node a.at) asks a.payload);
        others_stay = λ p h o. pick_false _ _ (ne_eqb _ _ o);
        wire_stays = refl;
      }

-- ---- k steps

pub record Handings (file : List ℕ) (c : Cell) (k : ℕ) : Type 0 where
  pub last : Cell
  pub run : Run file c (handings k) last

pub hand_all : (file : List ℕ) → (read_ring file).number ≡ 0 → (k : ℕ) (c : Cell) → Handings file c k
unfolding handings
hand_all file good zero c = record { last = c; run = done c }
hand_all file good (suc k) c =
    let r = hand_all file good k (next_cell file c) in
    record { last = r.last; run = hand_on c (next_cell file c) r.last (handings k) (hands_on file c good) r.run }
