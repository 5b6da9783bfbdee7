-- Laws of a part of a list that something is laid over, and so of a store's places. Assumes nothing.
use mathlib.Core.Path.{◌≡◌, refl, sym, ap, ◌∙◌}
use mathlib.Core.Bool.{Bool, true, false}
use mathlib.Core.List.{List, ◌++◌, append_assoc}
use Prim.Native.Nat.{ℕ, ◌+◌, ◌-◌, ◌*◌, ◌<◌, ◌≤◌}
use native.Mathlib.Omega.{arith}
use borrow.Author.Tests.{ltb-true, ltb-false}
use lib.Dec.{ltb}
use lib.ListN.{length, take, drop, length-append, length-drop, take-append-drop}
use lib.Seq.{length-take-le, take_at, drop_at, take-append-le, drop-append-le, drop-append-add, drop-drop}
use Rattle.codec.specs.Octets.{laid}
use Rattle.codec.proofs.Laws.Octets.{length_laid}
use Rattle.parts.specs.Choose.{pick}
use Rattle.parts.proofs.Laws.Choose.{pick_true}
use Rattle.records.specs.Layout.{place_length, store_length}
use Rattle.driver_buffers.specs.Places.{fits_place, in_place, put_place}
use Rattle.driver_buffers.proofs.Laws.Places.{fits_sound}
use Rattle.wire_theorems.proofs.Laws.Stores.{place_fits, place_is}

-- ---- a part of a list

front_part : (a b : List ℕ) (from n : ℕ) → from + n ≤ length a → take n (drop from (a ++ b)) ≡ take n (drop from a)
front_part a b from n h =
    ap (take n) (drop-append-le from a b (omega arith)) ∙ take-append-le n (drop from a) b (rw (length-drop from a) (omega arith))

module _ (l x : List ℕ) (at : ℕ) (room : at + length x ≤ length l) where
  front : length (take at l) ≡ at
  front = length-take-le at l (omega arith)

  part_there : take (length x) (drop at (laid l at x)) ≡ x
  part_there = ap (take (length x)) (drop_at (take at l) (x ++ drop (at + length x) l) at front) ∙ take_at x (drop (at + length x) l) (length x) refl

  part_before : (from n : ℕ) → from + n ≤ at → take n (drop from (laid l at x)) ≡ take n (drop from l)
  part_before from n h =
      let k : from + n ≤ length (take at l) = omega (arith, front) in
      front_part (take at l) (x ++ drop (at + length x) l) from n k
      ∙ sym (front_part (take at l) (drop at l) from n k)
      ∙ ap (λ (o : List ℕ). take n (drop from o)) (take-append-drop at l)

  part_behind : (from n : ℕ) → at + length x ≤ from → take n (drop from (laid l at x)) ≡ take n (drop from l)
  part_behind from n h =
      let a : List ℕ = take at l ++ x in
      let end : ℕ = at + length x in
      let long : length a ≡ end = length-append (take at l) x ∙ ap (λ (k : ℕ). k + length x) front in
      let far : from ≡ end + (from - end) = omega arith in
      let far' : from ≡ length a + (from - end) = omega (arith, long) in
      ap (take n)
      (ap (drop from) (sym (append_assoc (take at l) x (drop end l)))
      ∙ ap (λ (k : ℕ). drop k (a ++ drop end l)) far'
      ∙ drop-append-add a (drop end l) (from - end)
      ∙ drop-drop (from - end) end l
      ∙ ap (λ (k : ℕ). drop k l) (sym far))

-- ---- a store's places

pub length_put : (store : List ℕ) (place : ℕ) (x : List ℕ) → length (put_place store place x) ≡ length store
unfolding put_place pick
length_put store place x = go (fits_place (length store) place (length x)) refl
  where
    go : (b : Bool) → fits_place (length store) place (length x) ≡ b → length (pick b (laid store (place * place_length) x) store) ≡ length store
    go true e =
        let f = fits_sound (length store) place (length x) e in
        length_laid store x (place * place_length) (omega (arith, f.sized, f.within, f.short))
    go false e = refl

module _ (store : List ℕ) (sized : length store ≡ store_length) (place : ℕ) (x : List ℕ) (within : place < 32) (short : length x ≤ place_length) where
  put_is : put_place store place x ≡ laid store (place * place_length) x
  unfolding put_place
  put_is = pick_true _ _ (place_fits (length store) place (length x) sized within short)

  room : place * place_length + length x ≤ length store
  room = omega arith

  long : length (put_place store place x) ≡ store_length
  long = length_put store place x ∙ sized

  pub put_there : in_place (put_place store place x) place (length x) ≡ x
  put_there =
      place_is (put_place store place x) place (length x) (place_fits _ place (length x) long within short)
      ∙ ap (λ (l : List ℕ). take (length x) (drop (place * place_length) l)) put_is
      ∙ part_there store x (place * place_length) room

  pub put_elsewhere : (q n : ℕ) → q < 32 → n ≤ place_length → (q ≡ place → ⊥) → in_place (put_place store place x) q n ≡ in_place store q n
  put_elsewhere q n h k other =
      place_is (put_place store place x) q n (place_fits _ q n long h k)
      ∙ ap (λ (l : List ℕ). take n (drop (q * place_length) l)) put_is
      ∙ go (ltb q place) refl
      ∙ sym (place_is store q n (place_fits _ q n sized h k))
    where
      go : (b : Bool) → ltb q place ≡ b → take n (drop (q * place_length) (laid store (place * place_length) x)) ≡ take n (drop (q * place_length) store)
      go true e =
          let lower : q < place = ltb-true q place e in
          part_before store x (place * place_length) room (q * place_length) n (omega arith)
      go false e =
          let higher : place ≤ q = ltb-false q place e in
          let above : place < q = omega (arith, higher, other) in
          part_behind store x (place * place_length) room (q * place_length) n (omega arith)
