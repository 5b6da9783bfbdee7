-- Two outcomes that a call's contract allows for the same arguments are the same: the number, and every octet of each lent buffer.
-- Assumes nothing.
use mathlib.Core.Path.{◌≡◌, sym, ap, ◌∙◌}
use mathlib.Core.List.{List}
use Prim.Native.Nat.{ℕ}
use lib.ListN.{length}
use Rattle.codec.proofs.Theorems.OneAnswer.{one_answer}
use Rattle.packet_codec.specs.Packet.{kept}
use Rattle.station.specs.declared.station.Answer.{Answer}
use Rattle.driver_calls.specs.Calls.{Making, Sending, Starting, Hearing, Timing, ring_kept, request_of, Queueing, Taking}
use Rattle.rtep.specs.Told.{RingTold, FormTold, ReadTold, made_of, WriteTold}
use Rattle.rtep_theorems.specs.Outcomes.{OneAnswer, Telling, Writing, Made, Sent, Heard, Queued, Taken}

-- a buffer that is kept or new by the number
one_buffer : (old new : List ℕ) {first second : List ℕ} {r q : ℕ} → r ≡ q → first ≡ kept r old new → second ≡ kept q old new → first ≡ second
one_buffer old new e p s = p ∙ ap (λ (n : ℕ). kept n old new) e ∙ sym s

-- ---- the codec's calls

pub rtep_ring_one_answer : (file told : List ℕ) → OneAnswer (λ (o : Telling). RingTold file told o.number o.told)
rtep_ring_one_answer file told a b p q =
    let n : a.number ≡ b.number = one_answer p.answer q.answer in
    let t : a.told ≡ b.told = one_buffer _ _ n p.told_is q.told_is in
    λ i. record { number = n i; told = t i }

-- to form 1 and to form 2
pub rtep_to_form_one_answer : (asked : ℕ) (file out told : List ℕ)
    → OneAnswer (λ (o : Writing). FormTold asked file out told o.number o.out o.told)
rtep_to_form_one_answer asked file out told a b p q =
    let n : a.number ≡ b.number = one_answer p.answer q.answer in
    let s : a.out ≡ b.out = one_buffer _ _ n p.out_is q.out_is in
    let t : a.told ≡ b.told = one_buffer _ _ n p.told_is q.told_is in
    λ i. record { number = n i; out = s i; told = t i }

pub rtep_read_one_answer : (ring packet told : List ℕ) → OneAnswer (λ (o : Telling). ReadTold ring packet told o.number o.told)
rtep_read_one_answer ring packet told a b p q =
    let n : a.number ≡ b.number = one_answer p.answer q.answer in
    let t : a.told ≡ b.told = one_answer p.told_is q.told_is in
    λ i. record { number = n i; told = t i }

pub rtep_write_one_answer : (ring packet information out told : List ℕ)
    → OneAnswer (λ (o : Writing). WriteTold ring (made_of packet) information out told o.number o.out o.told)
rtep_write_one_answer ring packet information out told a b p q =
    let n : a.number ≡ b.number = one_answer p.answer q.answer in
    let s : a.out ≡ b.out = one_buffer _ _ n p.out_is q.out_is in
    let t : a.told ≡ b.told = one_buffer _ _ n p.told_is q.told_is in
    λ i. record { number = n i; out = s i; told = t i }

-- ---- the station's calls

pub rtep_make_one_answer : (rec file : List ℕ) (own : ℕ) → OneAnswer (λ (o : Made). Making rec file own o.number o.rec)
rtep_make_one_answer rec file own a b p q =
    let n : a.number ≡ b.number = one_answer p.answer q.answer in
    let s : a.rec ≡ b.rec = one_buffer _ _ n p.record_is q.record_is in
    λ i. record { number = n i; rec = s i }

-- what may send
sending_one_answer : (number : ℕ) (answer : Answer) (ring information rec out told : List ℕ)
    → OneAnswer (λ (o : Sent). Sending number answer ring information rec out told o.number o.rec o.out o.told)
sending_one_answer number answer ring information rec out told a b p q =
    let n : a.number ≡ b.number = one_answer p.answer q.answer in
    let s : a.rec ≡ b.rec = one_buffer _ _ n p.record_is q.record_is in
    let u : a.out ≡ b.out = one_buffer _ _ n p.out_is q.out_is in
    let t : a.told ≡ b.told = one_buffer _ _ n p.told_is q.told_is in
    λ i. record { number = n i; rec = s i; out = u i; told = t i }

pub rtep_start_one_answer : (rec out told : List ℕ) → OneAnswer (λ (o : Sent). Starting rec out told o.number o.rec o.out o.told)
rtep_start_one_answer rec out told = sending_one_answer _ _ _ _ rec out told

pub rtep_timer_one_answer : (rec store out told : List ℕ) → OneAnswer (λ (o : Sent). Timing rec store out told o.number o.rec o.out o.told)
rtep_timer_one_answer rec store out told = sending_one_answer _ _ _ _ rec out told

abbrev sent : Heard → Sent
sent o = record { number = o.number; rec = o.rec; out = o.out; told = o.told }

pub rtep_frame_one_answer : (rec store : List ℕ) (from to : ℕ) (packet out told : List ℕ)
    → OneAnswer (λ (o : Heard). Hearing rec store from to packet out told o.number o.rec o.store o.out o.told)
rtep_frame_one_answer rec store from to packet out told a b p q =
    let e : sent a ≡ sent b = sending_one_answer _ _ _ _ rec out told (sent a) (sent b) p.sending q.sending in
    let s : a.store ≡ b.store = one_buffer _ _ (ap (λ (o : Sent). o.number) e) p.store_is q.store_is in
    λ i. record { number = (e i).number; rec = (e i).rec; store = s i; out = (e i).out; told = (e i).told }

pub rtep_queue_one_answer : (rec store : List ℕ) (to priority channel : ℕ) (payload : List ℕ)
    → OneAnswer (λ (o : Queued). Queueing rec store (request_of (ring_kept rec) to priority channel (length payload)) payload o.number o.rec o.store)
rtep_queue_one_answer rec store to priority channel payload a b p q =
    let n : a.number ≡ b.number = one_answer p.answer q.answer in
    let s : a.rec ≡ b.rec = one_buffer _ _ n p.record_is q.record_is in
    let u : a.store ≡ b.store = one_buffer _ _ n p.store_is q.store_is in
    λ i. record { number = n i; rec = s i; store = u i }

pub rtep_take_one_answer : (rec store : List ℕ) (channel : ℕ) (room told : List ℕ)
    → OneAnswer (λ (o : Taken). Taking rec store channel room told o.number o.rec o.room o.told)
rtep_take_one_answer rec store channel room told a b p q =
    let n : a.number ≡ b.number = one_answer p.answer q.answer in
    let s : a.rec ≡ b.rec = one_buffer _ _ n p.record_is q.record_is in
    let u : a.room ≡ b.room = one_buffer _ _ n p.room_is q.room_is in
    let t : a.told ≡ b.told = one_buffer _ _ n p.told_is q.told_is in
    λ i. record { number = n i; rec = s i; room = u i; told = t i }
