-- Where every member listens on every channel, as form 1 says, the ring file adds nothing to the records of a capture. Assumes nothing.
use mathlib.Core.Path.{◌≡◌, refl, sym, ap, ◌∙◌}
use mathlib.Core.Bool.{Bool, true}
use mathlib.Core.List.{List, ◌∷◌}
use Prim.Native.Nat.{ℕ, zero, suc}
use lib.ListN.{length, take, drop}
use Rattle.codec.specs.Ring.{count, ring_of, listens}
use Rattle.capture.specs.Record.{record_length, fields_at, event_of, read_record, event_fields, NotSaid}
use Rattle.capture.specs.declared.record.Event.{Event}
use Rattle.capture.specs.declared.record.Event.TheVariants.{Delivered, LostForAddressee, LostForAll, Timer, Queue}
use Rattle.capture.specs.declared.record.Read.{Read}
use Rattle.capture.specs.declared.record.Read.TheVariants.{End, Refused, Good}
use Rattle.capture.proofs.Laws.Checks.{passes}
use Rattle.capture.proofs.Laws.Fields.{within}
use Rattle.capture.proofs.Laws.Events.{event_again, fields_again}
use Rattle.capture.proofs.Laws.Reading.{found}
use Rattle.day.specs.Listening.{asked}
use Rattle.replay.specs.Runs.{Record, good, records_from, records_of, asked_all, records_with}
use Rattle.replay.proofs.Laws.Running.{records_end, records_refused, records_good}

abbrev everybody : ℕ → ℕ → Bool
everybody p channel = true

-- ---- an event that was read

unsaid : (e : Event) → NotSaid (asked everybody e)
unsaid Delivered = tt
unsaid LostForAddressee = tt
unsaid LostForAll = tt
unsaid (Timer station) = tt
unsaid (Queue station q) = refl

same_fields : (e : Event) → event_fields (asked everybody e) ≡ event_fields e
unfolding event_fields
same_fields Delivered = refl
same_fields LostForAddressee = refl
same_fields LostForAll = refl
same_fields (Timer station) = refl
same_fields (Queue station q) = refl

same_event : (n : ℕ) (s : List ℕ) (at : ℕ) (e : Event) (next : ℕ) → read_record n s at ≡ Good e next → asked everybody e ≡ e
same_event n s at e next q =
    let h = found n s at e next q in
    let again : event_fields e ≡ fields_at s at =
    ap event_fields (sym h.event_is) ∙ fields_again n (fields_at s at) (passes n (fields_at s at) h.passed) (within (take record_length (drop at s))) in
    sym (event_again (asked everybody e) (unsaid e)) ∙ ap event_of (same_fields e ∙ again) ∙ h.event_is

-- ---- the records

same_from : (k n : ℕ) (s : List ℕ) (at : ℕ) → asked_all everybody (records_from k n s at) ≡ records_from k n s at
unfolding records_from asked_all
same_from zero n s at = refl
same_from (suc k) n s at = go (read_record n s at) refl (same_from k n s)
  where
    go : (r : Read) → read_record n s at ≡ r → ((next : ℕ) → asked_all everybody (records_from k n s next) ≡ records_from k n s next)
        → asked_all everybody (records_from (suc k) n s at) ≡ records_from (suc k) n s at
    go End q more = ap (asked_all everybody) (records_end n s at (suc k) q) ∙ sym (records_end n s at (suc k) q)
    go (Refused number) q more = ap (asked_all everybody) (records_refused n s at k number q) ∙ sym (records_refused n s at k number q)
    go (Good e next) q more =
        ap (asked_all everybody) (records_good n s at k e next q)
        ∙ ap (λ (d : Event). good d ∷ asked_all everybody (records_from k n s next)) (same_event n s at e next q)
        ∙ ap (λ (rs : List Record). good e ∷ rs) (more next)
        ∙ sym (records_good n s at k e next q)

pub all_open_lem : (file s : List ℕ) → ((p channel : ℕ) → listens (ring_of file) p channel ≡ true) → records_with file s ≡ records_of (count file) s
all_open_lem file s all =
    (λ i. asked_all (λ (p channel : ℕ). all p channel i) (records_of (count file) s)) ∙ same_from (length s) (count file) s 0
