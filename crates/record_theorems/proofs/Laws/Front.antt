-- The ring file and the zeros behind it, in front of the station's octets. Assumes nothing.
use mathlib.Core.Path.{◌≡◌, refl, sym, ap, ◌∙◌}
use mathlib.Core.Bool.{Bool, true, false, cond}
use mathlib.Core.List.{List, ◌∷◌, ◌++◌}
use Prim.Native.Nat.{ℕ, zero, suc, ◌+◌, ◌-◌, ◌<◌, ◌≤◌}
use native.Mathlib.Nat.{add-zero}
use native.Mathlib.Omega.{arith}
use borrow.Author.Tests.{eq-eqb, eqb-true}
use lib.Dec.{eqb}
use lib.ListN.{length, take, drop, get_or, get_or-append}
use lib.Seq.{take-append-le, take_at, drop-cons, get_or-append-add}
use Rattle.codec.specs.Octets.{zeros, first_nonzero}
use Rattle.codec.specs.Ring.{form, count, file_octets, read_ring}
use Rattle.codec.proofs.Laws.Ring.{HeadGood, head_good, head_passed, read_zero}
use Rattle.records.specs.Layout.{ring_room}
use Rattle.records.specs.Record.{file_length, file_of, pad_good, ring_octets}
use Rattle.records.proofs.Laws.Load.{form_front, count_front, file_room}
use Rattle.record_theorems.proofs.Laws.Goes.{Goes}

-- ---- how long a ring file says that it is: its first two octets say it

length_front : (f t : List ℕ) → 2 ≤ length f → file_length (f ++ t) ≡ file_length f
length_front f t h = ap (λ (k : ℕ). file_octets k (count (f ++ t))) (form_front f t h) ∙ ap (file_octets (form f)) (count_front f t h)

-- ---- zeros

nonzero_front : (f t : List ℕ) (at k : ℕ) → at + k ≤ length f → first_nonzero (f ++ t) at k ≡ first_nonzero f at k
nonzero_front f t at zero h = refl
nonzero_front f t at (suc k) h =
    rw (get_or-append f t 0 at (omega arith), nonzero_front f t (suc at) k (omega arith))

all_zeros : (s : List ℕ) (at k : ℕ) → ((i : ℕ) → i < k → get_or s (at + i) 0 ≡ 0) → first_nonzero s at k ≡ at + k
all_zeros s at zero p = sym (add-zero at)
all_zeros s at (suc k) p =
    let first : get_or s at 0 ≡ 0 = ap (λ (n : ℕ). get_or s n 0) (sym (add-zero at)) ∙ p 0 (omega arith) in
    let later : (i : ℕ) → i < k → get_or s (suc at + i) 0 ≡ 0 =
    λ i h. let next : suc at + i ≡ at + suc i = omega arith in ap (λ (n : ℕ). get_or s n 0) next ∙ p (suc i) (omega arith) in
    rw (eq-eqb (get_or s at 0) 0 first) (all_zeros s (suc at) k later ∙ omega arith)

zero_at : (k i : ℕ) → get_or (zeros k) i 0 ≡ 0
zero_at zero i = refl
zero_at (suc k) zero = refl
zero_at (suc k) (suc i) = zero_at k i

-- where none of k octets is another than zero, k zeros stand
pub zeros_stand : (s : List ℕ) (at k : ℕ) → at + k ≤ length s → first_nonzero s at k ≡ at + k → Goes s at (zeros k) (at + k)
zeros_stand s at zero h e = ap (λ (n : ℕ). drop n s) (sym (add-zero at))
zeros_stand s at (suc k) h e = go (eqb (get_or s at 0) 0) refl e (zeros_stand s (suc at) k (omega arith))
  where
    go : (b : Bool) → eqb (get_or s at 0) 0 ≡ b → cond b (first_nonzero s (suc at) k) at ≡ at + suc k
        → (first_nonzero s (suc at) k ≡ suc at + k → Goes s (suc at) (zeros k) (suc at + k)) → Goes s at (zeros (suc k)) (at + suc k)
    go false b e' rest = absurd (omega arith)
    go true b e' rest =
        let end : at + suc k ≡ suc at + k = omega arith in
        drop-cons s at 0 (omega arith)
        ∙ ap (λ (x : ℕ). x ∷ drop (suc at) s) (eqb-true _ _ b)
        ∙ ap (λ (l : List ℕ). 0 ∷ l) (rest (e' ∙ end))
        ∙ ap (λ (n : ℕ). zeros (suc k) ++ drop n s) (sym end)

-- ---- what stands behind the front is not looked at

module _ (f t : List ℕ) (sized : length f ≡ ring_room) where
  pub front_file : file_of (f ++ t) ≡ file_of f
  front_file =
      ap (λ (n : ℕ). take n (f ++ t)) (length_front f t (omega arith))
      ∙ take-append-le (file_length f) f t (omega (arith, file_room f))

  pub front_pad : pad_good (f ++ t) ≡ pad_good f
  front_pad =
      ap (λ (n : ℕ). eqb (first_nonzero (f ++ t) n (ring_room - n)) ring_room) (length_front f t (omega arith))
      ∙ ap (λ (n : ℕ). eqb n ring_room) (nonzero_front f t (file_length f) (ring_room - file_length f) (omega (arith, file_room f)))

-- ---- a good ring file in front

module _ (file : List ℕ) (good : (read_ring file).number ≡ 0) where
  head : HeadGood file
  head = head_good file (head_passed file (read_zero file good))

  says : file_length (ring_octets file) ≡ length file
  says = length_front file (zeros (ring_room - length file)) head.long ∙ sym head.sized

  pub file_fits : length file ≤ ring_room
  file_fits = omega (arith, head.sized, file_room file)

  pub ring_file : file_of (ring_octets file) ≡ file
  ring_file =
      ap (λ (n : ℕ). take n (ring_octets file)) says ∙ take_at file (zeros (ring_room - length file)) (length file) refl

  pub ring_pad : pad_good (ring_octets file) ≡ true
  ring_pad =
      let k : ℕ = ring_room - length file in
      let none : first_nonzero (ring_octets file) (length file) k ≡ length file + k =
      all_zeros (ring_octets file) (length file) k (λ i h. get_or-append-add file (zeros k) i 0 ∙ zero_at k i) in
      ap (λ (n : ℕ). eqb (first_nonzero (ring_octets file) n (ring_room - n)) ring_room) says
      ∙ eq-eqb _ _ (none ∙ omega (arith, file_fits))
