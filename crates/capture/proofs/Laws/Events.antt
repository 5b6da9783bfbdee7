-- Laws of events and the fields of their records: each gives the other again. Assumes nothing.
use mathlib.Core.Path.{◌≡◌, refl, sym}
use Prim.Native.Nat.{ℕ, zero, suc, ◌<◌, ◌≤◌}
use native.Mathlib.Omega.{arith}
use borrow.Author.Tests.{lt-leb}
use Rattle.capture.specs.Record.{record_number, request_of, event_of, plain_fields, event_fields, EventFits, NotSaid}
use Rattle.capture.specs.declared.record.Fields.{Fields}
use Rattle.capture.specs.declared.record.Event.{Event}
use Rattle.capture.specs.declared.record.Event.TheVariants.{Delivered, LostForAddressee, LostForAll, Timer, Queue}
use Rattle.capture.proofs.Laws.Fields.{Within}
use Rattle.capture.proofs.Laws.Checks.{Passes}

-- ---- from an event to its fields

pub event_again : (e : Event) → NotSaid e → event_of (event_fields e) ≡ e
unfolding event_of event_fields
event_again Delivered u = refl
event_again LostForAddressee u = refl
event_again LostForAll u = refl
event_again (Timer station) u = refl
event_again (Queue station q) u = λ i. Queue station (record { to = q.to; priority = q.priority; channel = q.channel; length = q.length; listens = sym u i })

pub fields_pass : (n : ℕ) (e : Event) → 1 ≤ n → EventFits n e → record_number n (event_fields e) ≡ 0
unfolding record_number event_fields
fields_pass n Delivered one h = rw (lt-leb n 0 one)
fields_pass n LostForAddressee one h = rw (lt-leb n 0 one)
fields_pass n LostForAll one h = rw (lt-leb n 0 one)
fields_pass n (Timer station) one h = rw (lt-leb n station h, lt-leb n 0 one)
fields_pass n (Queue station q) one h = rw (lt-leb n station h.station_in, lt-leb n q.to h.to_in)

plain_within : (kind station : ℕ) → kind < 8 → station < 64 → Within (plain_fields kind station)
plain_within kind station k h =
    record { kind = k; station = h; destination = omega arith; priority = omega arith; channel = omega arith; length = omega arith; zeros = omega arith }

pub fields_within : (n : ℕ) (e : Event) → n ≤ 64 → EventFits n e → Within (event_fields e)
unfolding event_fields
fields_within n Delivered few h = plain_within 0 0 (omega arith) (omega arith)
fields_within n LostForAddressee few h = plain_within 1 0 (omega arith) (omega arith)
fields_within n LostForAll few h = plain_within 2 0 (omega arith) (omega arith)
fields_within n (Timer station) few h = plain_within 3 station (omega arith) (omega (arith, h))
fields_within n (Queue station q) few h =
    record {
      kind = omega arith;
      station = omega (arith, h.station_in);
      destination = omega (arith, h.to_in);
      priority = h.priority_fits;
      channel = h.channel_fits;
      length = h.length_fits;
      zeros = omega arith;
    }

-- ---- from fields that pass to their event

module _ (n : ℕ) (f : Fields) (p : Passes n f) (w : Within f) where
  -- the fields of a kind that uses no other, or the station alone
  plain : (kind station : ℕ) → f.kind ≡ kind → kind < 4 → f.station ≡ station → plain_fields kind station ≡ f
  plain kind station ek h es =
      let r = p.rest_unused (omega arith) in
      λ i. record { kind = sym ek i; station = sym es i; destination = sym r.0 i; priority = sym r.1 i; channel = sym r.2 i; length = sym r.3 i; zeros = sym p.zero_bits i }

  -- the same fields again, and an event that a record can hold
  abbrev Back : Type 0
  Back = (event_fields (event_of f) ≡ f) × EventFits n (event_of f)

  back : (e : Event) → event_of f ≡ e → event_fields e ≡ f → EventFits n e → Back
  back e is same fits = rw is (same, fits)

  of_kind : (k : ℕ) → f.kind ≡ k → Back
  unfolding event_of event_fields
  of_kind zero e = back Delivered (rw e) (plain 0 0 e (omega arith) (p.station_unused (omega arith))) tt
  of_kind (suc zero) e = back LostForAddressee (rw e) (plain 1 0 e (omega arith) (p.station_unused (omega arith))) tt
  of_kind (suc (suc zero)) e = back LostForAll (rw e) (plain 2 0 e (omega arith) (p.station_unused (omega arith))) tt
  of_kind (suc (suc (suc zero))) e = back (Timer f.station) (rw e) (plain 3 f.station e (omega arith) refl) p.station_in
  of_kind (suc (suc (suc (suc k)))) e =
      let four : f.kind ≡ 4 = omega (arith, p.kind_is) in
      back (Queue f.station (request_of f)) (rw four)
      (λ i. record { kind = sym four i; station = f.station; destination = f.destination; priority = f.priority; channel = f.channel; length = f.length; zeros = sym p.zero_bits i })
      (record { station_in = p.station_in; to_in = p.destination_in; priority_fits = w.priority; channel_fits = w.channel; length_fits = w.length })

  pub fields_again : event_fields (event_of f) ≡ f
  fields_again = (of_kind f.kind refl).0

  pub event_fits : EventFits n (event_of f)
  event_fits = (of_kind f.kind refl).1
