-- Laws of a list's members: a test that each passes, and where they stand. Assumes nothing.
use mathlib.Core.Path.{◌≡◌, refl, sym, ap, subst, ◌∙◌}
use mathlib.Core.Bool.{Bool, true, false, false≢true}
use mathlib.Core.List.Memᴰ
use mathlib.Core.List.{List, [], ◌∷◌, ◌++◌, Memᴰ}
use Prim.Native.Nat.{ℕ, zero, suc, ◌<◌}
use native.Mathlib.Omega.{arith}
use lib.ListN.{length, get_or}
use Rattle.parts.specs.Choose.{every}
use Rattle.parts.specs.Messages.{blank, has_place}
use Rattle.wholeness.specs.Whole.{apart}
use Rattle.parts.specs.declared.list.Message.{Message}
use Rattle.parts.proofs.Laws.Messages.{place_none, place_here, place_later}
use Rattle.parts.proofs.Laws.Tests.{each_none, each_first, each_rest, each}
use Rattle.station_theorems.proofs.Laws.Kept.{place_left, place_right, place_append, apart_end, apart_first, apart_rest, apart_both}

-- ---- what each passes

module _ {A : Type 0} (f : A → Bool) where
  pub each_member : {a : A} {l : List A} → Memᴰ a l → every f l ≡ true → f a ≡ true
  each_member (Memᴰ.head {x = x} {xs = xs} q) e = ap f q ∙ each_first f x xs e
  each_member (Memᴰ.tail {x = x} {xs = xs} m) e = each_member m (each_rest f x xs e)

  pub each_of : (l : List A) → ((a : A) → Memᴰ a l → f a ≡ true) → every f l ≡ true
  each_of [] w = each_none f
  each_of (a ∷ l) w = each f a l (w a (Memᴰ.head refl)) (each_of l (λ b m. w b (Memᴰ.tail m)))

-- ---- where one stands

pub standing : {A : Type 0} (xs ys : List A) (a : A) (l : List A) → l ≡ xs ++ a ∷ ys → Memᴰ a l
standing xs ys a l e = subst (Memᴰ a) (sym e) (Memᴰ.append_right xs (Memᴰ.head refl))

pub stood : {A : Type 0} {a : A} {l : List A} → Memᴰ a l → (xs : List A) × (ys : List A) × (l ≡ xs ++ a ∷ ys)
stood (Memᴰ.head {x = x} {xs = xs} q) = ([], xs, ap (λ (y : _). y ∷ xs) (sym q))
stood (Memᴰ.tail {x = x} m) = let r = stood m in (x ∷ r.0, r.1, ap (λ (k : List _). x ∷ k) r.2)

-- ---- places of their own, by position

pub apart_at : (b ms : List Message) → apart b ms ≡ true
    → ((i : ℕ) → i < length ms → has_place b (get_or ms i blank).place ≡ false)
    × ((i j : ℕ) → i < j → j < length ms → (get_or ms i blank).place ≡ (get_or ms j blank).place → ⊥)
apart_at b [] e = ((λ i h. absurd (omega arith)), (λ i j h k. absurd (omega arith)))
apart_at b (m ∷ ms) e =
    let r = apart_at (b ++ m ∷ []) ms (apart_rest b m ms e) in
    (before r.0, among r.0 r.1)
  where
    before : ((i : ℕ) → i < length ms → has_place (b ++ m ∷ []) (get_or ms i blank).place ≡ false) → (i : ℕ) → i < suc (length ms) → has_place b (get_or (m ∷ ms) i blank).place ≡ false
    before r zero h = apart_first b m ms e
    before r (suc i) h = place_left b (m ∷ []) _ (r i (omega arith))

    among : ((i : ℕ) → i < length ms → has_place (b ++ m ∷ []) (get_or ms i blank).place ≡ false)
        → ((i j : ℕ) → i < j → j < length ms → (get_or ms i blank).place ≡ (get_or ms j blank).place → ⊥)
        → (i j : ℕ) → i < j → j < suc (length ms) → (get_or (m ∷ ms) i blank).place ≡ (get_or (m ∷ ms) j blank).place → ⊥
    among r s i zero h k q = omega arith
    among r s zero (suc j) h k q = false≢true (sym (place_right b (m ∷ []) _ (r j (omega arith))) ∙ place_here m [] _ q)
    among r s (suc i) (suc j) h k q = s i j (omega arith) (omega arith) q

pub apart_of : (b ms : List Message) → ((i : ℕ) → i < length ms → has_place b (get_or ms i blank).place ≡ false)
    → ((i j : ℕ) → i < j → j < length ms → (get_or ms i blank).place ≡ (get_or ms j blank).place → ⊥) → apart b ms ≡ true
apart_of b [] r s = apart_end b
apart_of b (m ∷ ms) r s =
    apart_both b m ms (r 0 (omega arith))
    (apart_of (b ++ m ∷ []) ms
    (λ i h. place_append b (m ∷ []) _ (r (suc i) (omega arith)) (place_later m [] _ (λ q. s 0 (suc i) (omega arith) (omega arith) q) ∙ place_none _))
    (λ i j h k. s (suc i) (suc j) (omega arith) (omega arith)))
