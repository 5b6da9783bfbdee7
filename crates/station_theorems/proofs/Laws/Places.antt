-- Laws of the places of messages. Assumes nothing.
use mathlib.Core.Path.{◌≡◌, refl, sym, ap, ◌∙◌}
use mathlib.Core.Bool.{Bool, true, false, not, false≢true}
use mathlib.Core.List.{List, [], ◌∷◌, Memᴰ}
use Prim.Native.Nat.{ℕ, zero, suc, ◌+◌, ◌<◌, ◌≤◌}
use native.Mathlib.Omega.{arith}
use lib.Dec.{eqb}
use lib.ListN.{length}
use borrow.Author.Tests.{eqb-true, eqb-false}
use Rattle.parts.specs.declared.list.Message.{Message}
use Rattle.parts.specs.Messages.{only, has_place, free_from, lowest_free}
use Rattle.parts.proofs.Laws.Messages.{place_none, place_here, place_later, only_one, only_not, only_length, free_here, free_later, free_none}

-- ---- a place that is had is some message's, and one that is not had is no message's

pub place_of : (ms : List Message) (p : ℕ) → has_place ms p ≡ true → (m : Message) × Memᴰ m ms × (m.place ≡ p)
place_of [] p h = absurd (false≢true (sym (place_none p) ∙ h))
place_of (m ∷ ms) p h = go (eqb m.place p) refl (place_of ms p)
  where
    go : (b : Bool) → eqb m.place p ≡ b → (has_place ms p ≡ true → (x : Message) × Memᴰ x ms × (x.place ≡ p))
        → (x : Message) × Memᴰ x (m ∷ ms) × (x.place ≡ p)
    go true e rest = (m, Memᴰ.head refl, eqb-true m.place p e)
    go false e rest =
        let r = rest (sym (place_later m ms p (eqb-false m.place p e)) ∙ h) in
        (r.0, Memᴰ.tail r.1, r.2)

had_by : (m : Message) (ms : List Message) (p : ℕ) → Memᴰ m ms → m.place ≡ p → has_place ms p ≡ true
had_by m ms p (Memᴰ.head {x = x} {xs = xs} e) q = place_here x xs p (ap (λ (y : Message). y.place) (sym e) ∙ q)
had_by m ms p (Memᴰ.tail {x = x} {xs = xs} h) q = go (eqb x.place p) refl (had_by m xs p h q)
  where
    go : (b : Bool) → eqb x.place p ≡ b → has_place xs p ≡ true → has_place (x ∷ xs) p ≡ true
    go true e r = place_here x xs p (eqb-true x.place p e)
    go false e r = place_later x xs p (eqb-false x.place p e) ∙ r

pub place_had : (ms : List Message) (p : ℕ) (m : Message) → Memᴰ m ms → m.place ≡ p → has_place ms p ≡ true
place_had ms p m h q = had_by m ms p h q

pub place_nobodys : (ms : List Message) (p : ℕ) → has_place ms p ≡ false → (m : Message) → Memᴰ m ms → m.place ≡ p → ⊥
place_nobodys ms p e m h q = false≢true (sym e ∙ place_had ms p m h q)

-- ---- as many messages as places

-- those that have another place than k
without : ℕ → List Message → List Message
without k ms = only (λ (m : Message). not (eqb m.place k)) ms

without_shorter : (k : ℕ) (ms : List Message) → has_place ms k ≡ true → length (without k ms) < length ms
unfolding without
without_shorter k [] h = absurd (false≢true (sym (place_none k) ∙ h))
without_shorter k (m ∷ ms) h = go (eqb m.place k) refl (without_shorter k ms)
  where
    others : Message → Bool
    others x = not (eqb x.place k)

    go : (b : Bool) → eqb m.place k ≡ b → (has_place ms k ≡ true → length (only others ms) < length ms) → length (only others (m ∷ ms)) < suc (length ms)
    go true e rest = rw (only_not others m ms (ap not e)) (omega (arith, only_length others ms))
    go false e rest = rw (only_one others m ms (ap not e)) (omega (arith, rest (sym (place_later m ms k (eqb-false m.place k e)) ∙ h)))

without_keeps : (k q : ℕ) → (q ≡ k → ⊥) → (ms : List Message) → has_place ms q ≡ true → has_place (without k ms) q ≡ true
unfolding without
without_keeps k q n [] h = absurd (false≢true (sym (place_none q) ∙ h))
without_keeps k q n (m ∷ ms) h = go (eqb m.place k) refl (eqb m.place q) refl (without_keeps k q n ms)
  where
    others : Message → Bool
    others x = not (eqb x.place k)

    go : (a : Bool) → eqb m.place k ≡ a → (b : Bool) → eqb m.place q ≡ b → (has_place ms q ≡ true → has_place (only others ms) q ≡ true)
        → has_place (only others (m ∷ ms)) q ≡ true
    go true d true e rest = absurd (n (sym (eqb-true m.place q e) ∙ eqb-true m.place k d))
    go true d false e rest = rw (only_not others m ms (ap not d)) (rest (sym (place_later m ms q (eqb-false m.place q e)) ∙ h))
    go false d true e rest = rw (only_one others m ms (ap not d)) (place_here m (only others ms) q (eqb-true m.place q e))
    go false d false e rest =
        rw (only_one others m ms (ap not d))
        (place_later m (only others ms) q (eqb-false m.place q e) ∙ rest (sym (place_later m ms q (eqb-false m.place q e)) ∙ h))

-- if each number below k is some message's place, there are at least k messages
pub pigeonhole : (k : ℕ) (ms : List Message) → ((q : ℕ) → q < k → has_place ms q ≡ true) → k ≤ length ms
pigeonhole zero ms h = omega arith
pigeonhole (suc k) ms h =
    let s : length (without k ms) < length ms = without_shorter k ms (h k (omega arith)) in
    let r : k ≤ length (without k ms) = pigeonhole k (without k ms) (λ q l. without_keeps k q (λ e. omega arith) ms (h q (omega arith))) in
    omega arith

-- ---- the lowest free place

-- what a search of k places from p on finds
record Found (k p : ℕ) (ms : List Message) (r : ℕ) : Type 0 where
  low : p ≤ r
  high : r ≤ p + k
  taken : (q : ℕ) → p ≤ q → q < r → has_place ms q ≡ true
  free : r < p + k → has_place ms r ≡ false

found : (k p : ℕ) (ms : List Message) → Found k p ms (free_from k p ms)
found zero p ms = rw (free_none p ms) (record { low = omega arith; high = omega arith; taken = λ q l h. absurd (omega arith); free = λ h. absurd (omega arith) })
found (suc k) p ms = go (has_place ms p) refl (found k (suc p) ms)
  where
    go : (b : Bool) → has_place ms p ≡ b → Found k (suc p) ms (free_from k (suc p) ms) → Found (suc k) p ms (free_from (suc k) p ms)
    go true e f =
        rw (free_later k p ms e)
        (record {
          low = omega (arith, f.low);
          high = omega (arith, f.high);
          taken = λ q l h. later q l h (eqb p q) refl;
          free = λ h. f.free (omega arith);
        })
      where
        later : (q : ℕ) → p ≤ q → q < free_from k (suc p) ms → (b : Bool) → eqb p q ≡ b → has_place ms q ≡ true
        later q l h true d = rw (← eqb-true p q d) e
        later q l h false d = let n : p ≡ q → ⊥ = eqb-false p q d in f.taken q (omega arith) h
    go false e f =
        rw (free_here k p ms e) (record { low = omega arith; high = omega arith; taken = λ q l h. absurd (omega arith); free = λ h. e })

module _ (ms : List Message) where
  pub lowest_free_high : lowest_free ms ≤ 16
  unfolding lowest_free
  lowest_free_high = let f : Found 16 0 ms (free_from 16 0 ms) = found 16 0 ms in omega arith

  pub lower_taken : (q : ℕ) → q < lowest_free ms → has_place ms q ≡ true
  unfolding lowest_free
  lower_taken q h = (found 16 0 ms).taken q (omega arith) h

  pub lowest_free_free : lowest_free ms < 16 → has_place ms (lowest_free ms) ≡ false
  unfolding lowest_free
  lowest_free_free h = (found 16 0 ms).free h

  pub lowest_free_room : length ms < 16 → lowest_free ms < 16
  lowest_free_room h = let r : lowest_free ms ≤ length ms = pigeonhole (lowest_free ms) ms lower_taken in omega arith

-- so fewer than sixteen messages leave a free place
pub free_place : (ms : List Message) → length ms < 16 → (lowest_free ms < 16) × (has_place ms (lowest_free ms) ≡ false)
free_place ms h = (lowest_free_room ms h, lowest_free_free ms (lowest_free_room ms h))
