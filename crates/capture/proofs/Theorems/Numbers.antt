-- The numbers that reading gives, and that a capture which passes the first is cut in whole records. Assumes nothing.
use mathlib.Core.Path.{◌≡◌, refl, sym, ap, ◌∙◌}
use mathlib.Core.Bool.{Bool, true, false, cond}
use mathlib.Core.List.{List, [], ◌∷◌}
use Prim.Native.Nat.{ℕ, ◌%◌, ◌<◌, ◌≤◌}
use native.Mathlib.Omega.{arith}
use borrow.Author.Tests.{ltb-false, leb-true, leb-false, eqb-true, not-false}
use lib.Dec.{leb}
use lib.ListN.{length, take}
use lib.Seq.{take_all, length-take-le}
use Rattle.codec.specs.Order.{first_of}
use Rattle.codec.proofs.Laws.Order.{none_holds}
use Rattle.capture.specs.Record.{record_length, most_octets, capture_tests, capture_number, fields_at, record_tests, record_number, read_record}
use Rattle.capture.specs.declared.record.Read.TheVariants.{End, Refused}
use Rattle.capture.proofs.Laws.Reading.{refused_is, ended}

-- tests that all give k give k or none of them holds
abbrev AllGive : ℕ → List (Bool × ℕ) → Type 0
AllGive k [] = Unit {0}
AllGive k (t ∷ ts) = (t.1 ≡ k) × AllGive k ts

one_answer : (k : ℕ) (ts : List (Bool × ℕ)) → AllGive k ts → (first_of 0 ts ≡ 0 → ⊥) → first_of 0 ts ≡ k
one_answer k [] a other = absurd (other refl)
one_answer k (t ∷ ts) a other = go t.0 other (one_answer k ts a.1)
  where
    go : (b : Bool) → (cond b t.1 (first_of 0 ts) ≡ 0 → ⊥) → ((first_of 0 ts ≡ 0 → ⊥) → first_of 0 ts ≡ k) → cond b t.1 (first_of 0 ts) ≡ k
    go true o rest = a.0
    go false o rest = rest o

-- a record is refused with 25 and with nothing else
pub refused_25 : (n : ℕ) (s : List ℕ) (at k : ℕ) → read_record n s at ≡ Refused k → k ≡ 25
unfolding record_number
refused_25 n s at k q =
    let h = refused_is n s at k q in
    sym h.1 ∙ one_answer 25 (record_tests n (fields_at s at)) (refl, (refl, (refl, (refl, tt)))) (λ z. h.2 (sym h.1 ∙ z))

-- what a capture is that passes: whole records, and not too many
pub capture_passes : (s : List ℕ) → capture_number s ≡ 0 → (length s % record_length ≡ 0) × (length s ≤ most_octets)
unfolding capture_number
capture_passes s e =
    let h = none_holds 0 (capture_tests s) ((λ z. omega arith), ((λ z. omega arith), tt)) e in
    (eqb-true _ _ (not-false _ h.0), ltb-false _ _ h.1.0)

-- so from record to record the end comes only where the octets end
pub end_at_end : (n : ℕ) (s : List ℕ) (at : ℕ) → capture_number s ≡ 0 → at % record_length ≡ 0 → read_record n s at ≡ End → length s ≤ at
end_at_end n s at e whole q = omega (arith, ended n s at q, (capture_passes s e).0, whole)

-- a capture that is too long shows it in its first octets: however many are taken, if they are too many
pub too_long : (s : List ℕ) → most_octets < length s → capture_number s ≡ 24
unfolding capture_number
too_long s h = one_answer 24 (capture_tests s) (refl, (refl, tt)) (λ z. omega (arith, h, (capture_passes s z).1))

pub start_enough : (s : List ℕ) (m : ℕ) → most_octets < m → capture_number (take m s) ≡ capture_number s
start_enough s m h = go (leb (length s) m) refl
  where
    go : (b : Bool) → leb (length s) m ≡ b → capture_number (take m s) ≡ capture_number s
    go true e = ap capture_number (take_all m s (leb-true _ _ e))
    go false e =
        let more : m < length s = leb-false _ _ e in
        let long : length (take m s) ≡ m = length-take-le m s (omega arith) in
        too_long (take m s) (rw long h) ∙ sym (too_long s (omega arith))

-- and one that passes is taken whole
pub taken_whole : (s : List ℕ) (m : ℕ) → most_octets < m → capture_number s ≡ 0 → take m s ≡ s
taken_whole s m h e = take_all m s (omega (arith, h, (capture_passes s e).1))
