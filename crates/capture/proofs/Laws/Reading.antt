-- Laws of reading at an offset: what is read by what the tests say, and back. Assumes nothing.
use mathlib.Core.Path.{◌≡◌, refl, sym, ap, ◌∙◌}
use mathlib.Core.Bool.{Bool, true, false, cond, not}
use mathlib.Core.List.{List, [], ◌∷◌}
use Prim.Native.Nat.{ℕ, ◌+◌, ◌-◌, ◌<◌, ◌≤◌}
use native.Mathlib.Omega.{arith}
use borrow.Author.Tests.{lt-ltb, le-ltb, eq-eqb, ne_eqb, ltb-true, ltb-false, eqb-true, eqb-false, not-false}
use lib.Dec.{ltb, eqb}
use lib.ListN.{length, take, drop}
use Rattle.codec.proofs.Laws.Order.{none_gives, first_passed}
use Rattle.codec.proofs.Laws.Octets.{length_part}
use Rattle.capture.specs.Record.{record_length, fields_of, fields_at, record_number, event_of, read_record}
use Rattle.capture.specs.declared.record.Fields.{Fields}
use Rattle.capture.specs.declared.record.Event.{Event}
use Rattle.capture.specs.declared.record.Read.{Read}
use Rattle.capture.specs.declared.record.Read.TheVariants.{End, Refused, Good}

-- ---- the octets from an offset to the next

part_long : (at : ℕ) → at + record_length - at ≡ record_length
part_long at = omega arith

pub length_record : (s : List ℕ) (at : ℕ) → at + record_length ≤ length s → length (take (at + record_length - at) (drop at s)) ≡ record_length
length_record s at h = ap (λ (k : ℕ). length (take k (drop at s))) (part_long at) ∙ length_part s at record_length h

pub fields_between : (s : List ℕ) (at : ℕ) (f : Fields) → f ≡ fields_of (take (at + record_length - at) (drop at s)) → f ≡ fields_at s at
fields_between s at f e = e ∙ ap (λ (k : ℕ). fields_of (take k (drop at s))) (part_long at)

-- ---- what is read

module _ (n : ℕ) (s : List ℕ) (at : ℕ) where
  pub read_end : length s < at + record_length → End ≡ read_record n s at
  unfolding read_record
  read_end h = rw (lt-ltb _ _ h)

  module _ (h : at + record_length ≤ length s) (f : Fields) (ef : f ≡ fields_at s at) (k : ℕ) (ek : k ≡ record_number n f) where
    pub read_refused : (k ≡ 0 → ⊥) → Refused k ≡ read_record n s at
    unfolding read_record
    read_refused other = rw (le-ltb _ _ h, ← ef, ← ek, ne_eqb _ _ other)

    pub read_event : (e : Event) → k ≡ 0 → e ≡ event_of f → Good e (at + record_length) ≡ read_record n s at
    unfolding read_record
    read_event e z ee = rw (le-ltb _ _ h, ← ef, ← ek, eq-eqb _ _ z, ee)

-- ---- and back

-- what is so where an event is read
pub record Found (n : ℕ) (s : List ℕ) (at : ℕ) (e : Event) (next : ℕ) : Type 0 where
  pub whole : at + record_length ≤ length s
  pub passed : record_number n (fields_at s at) ≡ 0
  pub event_is : event_of (fields_at s at) ≡ e
  pub next_is : at + record_length ≡ next

end_not_good : (e : Event) (next : ℕ) → End ≡ Good e next → ⊥
end_not_good e next q = let z : ◌≡◌ {A = ℕ} 0 1 = cc in omega arith

refused_not_good : (k : ℕ) (e : Event) (next : ℕ) → Refused k ≡ Good e next → ⊥
refused_not_good k e next q = let z : ◌≡◌ {A = ℕ} 0 1 = cc in omega arith

end_not_refused : (k : ℕ) → End ≡ Refused k → ⊥
end_not_refused k q = let z : ◌≡◌ {A = ℕ} 0 1 = cc in omega arith

-- a whole record gives no end
whole_not_end : (b : Bool) (k : ℕ) (e : Event) (next : ℕ) → cond b (Refused k) (Good e next) ≡ End → ⊥
whole_not_end true k e next q = end_not_refused k (sym q)
whole_not_end false k e next q = end_not_good e next (sym q)

module _ (n : ℕ) (s : List ℕ) (at : ℕ) where
  abbrev k₀ : ℕ
  k₀ = record_number n (fields_at s at)

  abbrev last : Read
  last = Good (event_of (fields_at s at)) (at + record_length)

  abbrev tests : List (Bool × Read)
  tests = (ltb (length s) (at + record_length), End) ∷ (not (eqb k₀ 0), Refused k₀) ∷ []

  pub found : (e : Event) (next : ℕ) → read_record n s at ≡ Good e next → Found n s at e next
  unfolding read_record
  found e next q =
      let h = none_gives last (Good e next) tests (end_not_good e next, (refused_not_good k₀ e next, tt)) q in
      let same : last ≡ Good e next = sym (first_passed last tests h) ∙ q in
      record {
        whole = ltb-false _ _ h.0;
        passed = eqb-true _ _ (not-false _ h.1.0);
        event_is = cc (same);
        next_is = cc (same);
      }

  pub ended : read_record n s at ≡ End → length s < at + record_length
  unfolding read_record
  ended q = go (ltb (length s) (at + record_length)) refl q
    where
      go : (b : Bool) → ltb (length s) (at + record_length) ≡ b → cond b End (cond (not (eqb k₀ 0)) (Refused k₀) last) ≡ End → length s < at + record_length
      go true h q' = ltb-true _ _ h
      go false h q' = absurd (whole_not_end (not (eqb k₀ 0)) k₀ (event_of (fields_at s at)) (at + record_length) q')

  -- the number of the record that is refused
  pub refused_is : (k : ℕ) → read_record n s at ≡ Refused k → (at + record_length ≤ length s) × (k₀ ≡ k) × (k ≡ 0 → ⊥)
  unfolding read_record
  refused_is k q = go (ltb (length s) (at + record_length)) refl q
    where
      then : (b : Bool) → eqb k₀ 0 ≡ b → cond (not b) (Refused k₀) last ≡ Refused k → (k₀ ≡ k) × (k ≡ 0 → ⊥)
      then true h q' = absurd (refused_not_good k (event_of (fields_at s at)) (at + record_length) (sym q'))
      then false h q' = let same : k₀ ≡ k = cc (q') in (same, λ z. eqb-false _ _ h (same ∙ z))

      go : (b : Bool) → ltb (length s) (at + record_length) ≡ b → cond b End (cond (not (eqb k₀ 0)) (Refused k₀) last) ≡ Refused k → (at + record_length ≤ length s) × (k₀ ≡ k) × (k ≡ 0 → ⊥)
      go true h q' = absurd (end_not_refused k q')
      go false h q' = let r = then (eqb k₀ 0) refl q' in (ltb-false _ _ h, r.0, r.1)
