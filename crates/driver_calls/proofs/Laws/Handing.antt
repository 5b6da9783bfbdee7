-- Laws of queue and take: what a refusal and an answer of 0 leave. Assumes nothing.
use mathlib.Core.Path.{◌≡◌, ap, ◌∙◌}
use mathlib.Core.Bool.{Bool, true, false}
use mathlib.Core.List.{List}
use Prim.Native.Nat.{ℕ, ◌≤◌}
use borrow.Author.Tests.{eq-eqb, ne_eqb}
use lib.ListN.{length, take}
use Rattle.codec.specs.Ring.{count, member_at, position, ring_of, listens}
use Rattle.station.specs.Queue.{queue_rule}
use Rattle.station.specs.Take.{take_rule}
use Rattle.parts.specs.declared.request.Request.{Request}
use Rattle.station.specs.declared.station.Station.{Station}
use Rattle.station.specs.declared.station.Answer.{Answer}
use Rattle.records.specs.Layout.{store_length}
use Rattle.records.proofs.Laws.Load.{Held, held_count, held_within, listens_held}
use Rattle.driver_buffers.specs.Places.{queued, taken}
use Rattle.driver_buffers.specs.Telling.{taken_told}
use Rattle.driver_calls.specs.Calls.{ring_kept, ring_in, request_for, request_of, bad_store, record_with, queue_answer, Queueing, taken_into, take_answer, Taking}
use Rattle.driver_calls.proofs.Laws.Calls.{Refusal, Done, kept_old}

-- ---- the store's length

pub store_bad : {n : ℕ} → (n ≡ store_length → ⊥) → bad_store n ≡ true
store_bad {n} h = rw (ne_eqb n store_length h)

pub store_good : {n : ℕ} → n ≡ store_length → bad_store n ≡ false
store_good {n} e = rw (eq-eqb n store_length e)

-- ---- queue

-- what making the request requires
pub request_fits : {rec addresses : List ℕ} {n : ℕ} {st : Station} → Held rec addresses n st → (ms : List ℕ) → ms ≡ take n addresses
    → (length ms ≡ count rec) × (member_at rec (length ms) ≤ length rec)
request_fits {rec = rec} h ms em =
    let long : length ms ≡ count rec = ap length em ∙ held_count h in
    (long, rw long (held_within h))

-- the answer as the code has it, with what it holds and the request that it made on its ring
pub queue_answer_lem : {rec addresses : List ℕ} {n : ℕ} {st : Station} → Held rec addresses n st
    → (to priority channel size : ℕ) (ms : List ℕ) (q : Request) (b : Answer) → ms ≡ take n addresses
    → q ≡ request_for ms (ring_of rec) to priority channel size
    → b ≡ queue_rule st q → b ≡ queue_answer rec (request_of (ring_kept rec) to priority channel size)
queue_answer_lem {rec = rec} {st = st} h to priority channel size ms q b em eq eb =
    let heard : listens (ring_of rec) (position (ring_in rec) to) channel ≡ listens (ring_kept rec) (position (ring_in rec) to) channel =
    listens_held h (position (ring_in rec) to) channel in
    eb
    ∙ ap (queue_rule st)
    (eq
    ∙ ap (λ (l : List ℕ). request_for l (ring_of rec) to priority channel size) (em ∙ h.members)
    ∙ ap (λ (t : Bool). let x : Request = record { to = position (ring_in rec) to; priority = priority; channel = channel; length = size; listens = t } in x) heard)
    ∙ ap (λ (x : Station). queue_rule x (request_of (ring_kept rec) to priority channel size)) h.station

module _ {rec store : List ℕ} {q : Request} {payload : List ℕ} where
  pub not_queued : {r : ℕ} → Refusal (bad_store (length store)) rec (queue_answer rec q) r
      → Queueing rec store q payload r rec store
  not_queued {r} f =
      record { answer = f.number_is; record_is = kept_old r _ _ f.some; store_is = kept_old r _ _ f.some }

  pub all_queued : (b : Answer) (rec' store' : List ℕ) → Done (bad_store (length store)) rec (queue_answer rec q)
      → b ≡ queue_answer rec q → rec' ≡ record_with rec b.station → store' ≡ queued store b.payload payload
      → Queueing rec store q payload 0 rec' store'
  all_queued b rec' store' d eb er es =
      record {
        answer = d.number_is;
        record_is = er ∙ ap (λ (x : Answer). record_with rec x.station) eb;
        store_is = es ∙ ap (λ (x : Answer). queued store x.payload payload) eb;
      }

-- ---- take

pub take_answer_lem : {rec addresses : List ℕ} {n : ℕ} {st : Station} → Held rec addresses n st → (channel : ℕ) (room : List ℕ) (b : Answer)
    → b ≡ take_rule st channel (length room) → b ≡ take_answer rec channel room
take_answer_lem h channel room b eb = eb ∙ ap (λ (x : Station). take_rule x channel (length room)) h.station

module _ {rec store : List ℕ} {channel : ℕ} {room told : List ℕ} where
  pub not_taken : {r : ℕ} → Refusal (bad_store (length store)) rec (take_answer rec channel room) r → Taking rec store channel room told r rec room told
  not_taken {r} f =
      record
      { answer = f.number_is; record_is = kept_old r _ _ f.some; room_is = kept_old r _ _ f.some; told_is = kept_old r _ _ f.some }

  pub all_taken : (b : Answer) (ms part rec' room' told' : List ℕ) → Done (bad_store (length store)) rec (take_answer rec channel room)
      → b ≡ take_answer rec channel room → ms ≡ ring_in rec → part ≡ taken store b.payload
      → rec' ≡ record_with rec b.station → room' ≡ taken_into room part → told' ≡ taken_told ms b.payload
      → Taking rec store channel room told 0 rec' room' told'
  all_taken b ms part rec' room' told' d eb em ep er eo et =
      record {
        answer = d.number_is;
        record_is = er ∙ ap (λ (x : Answer). record_with rec x.station) eb;
        room_is = eo ∙ ap (taken_into room) (ep ∙ ap (λ (x : Answer). taken store x.payload) eb);
        told_is =
            et
            ∙ ap (λ (r : List ℕ). taken_told r b.payload) em
            ∙ ap (λ (x : Answer). taken_told (ring_in rec) x.payload) eb;
      }
