-- Laws of tests in a row and of a list's elements: taken apart and put together. Assumes nothing.
use Rattle.std.proofs.Common.{◌≡◌, ℕ, zero, suc, Bool, true, false, List, [], ◌∷◌, ◌++◌, replicate, refl}
use Rattle.parts.specs.Choose.{pick, all_of, every}
use Rattle.parts.proofs.Laws.Choose.{pick_and}

-- ---- two tests

pub both : {b c : Bool} → b ≡ true → c ≡ true → pick b c false ≡ true
unfolding pick
both p q = rw p q

-- ---- tests in a row

-- a test that holds lets the next be asked
pub holds : {b : Bool} (ts : List Bool) → b ≡ true → all_of (b ∷ ts) ≡ all_of ts
unfolding all_of pick
holds ts e = rw e

-- one that fails decides
pub fails : {b : Bool} (ts : List Bool) → b ≡ false → all_of (b ∷ ts) ≡ false
unfolding all_of pick
fails ts e = rw e

-- and the last one decides
pub last : (b : Bool) → all_of (b ∷ []) ≡ b
unfolding all_of pick
last true = refl
last false = refl

-- each of them holds
abbrev pub Hold : List Bool → Type 0
Hold [] = Unit {0}
Hold (b ∷ ts) = (b ≡ true) × Hold ts

pub held : (ts : List Bool) → all_of ts ≡ true → Hold ts
unfolding all_of
held [] e = tt
held (b ∷ ts) e = ((pick_and e).0, held ts (pick_and e).1)

pub hold : (ts : List Bool) → Hold ts → all_of ts ≡ true
unfolding all_of
hold [] h = refl
hold (b ∷ ts) h = both h.0 (hold ts h.1)

-- ---- every element of a list

module _ {A : Type 0} (f : A → Bool) where
  pub each_none : every f [] ≡ true
  unfolding every
  each_none = refl

  pub each_first : (a : A) (l : List A) → every f (a ∷ l) ≡ true → f a ≡ true
  unfolding every
  each_first a l e = (pick_and e).0

  pub each_rest : (a : A) (l : List A) → every f (a ∷ l) ≡ true → every f l ≡ true
  unfolding every
  each_rest a l e = (pick_and e).1

  pub each : (a : A) (l : List A) → f a ≡ true → every f l ≡ true → every f (a ∷ l) ≡ true
  unfolding every
  each a l p q = both p q

  pub each_append : (xs ys : List A) → every f xs ≡ true → every f ys ≡ true → every f (xs ++ ys) ≡ true
  each_append [] ys p q = q
  each_append (x ∷ xs) ys p q = each x (xs ++ ys) (each_first x xs p) (each_append xs ys (each_rest x xs p) q)

  pub each_snoc : (xs : List A) (y : A) → every f xs ≡ true → f y ≡ true → every f (xs ++ y ∷ []) ≡ true
  each_snoc xs y p q = each_append xs (y ∷ []) p (each y [] q each_none)

  pub each_same : (a : A) → f a ≡ true → (k : ℕ) → every f (replicate k a) ≡ true
  each_same a e zero = each_none
  each_same a e (suc k) = each a (replicate k a) e (each_same a e k)

-- a weaker test
pub each_weaker : {A : Type 0} (f g : A → Bool) → ((a : A) → f a ≡ true → g a ≡ true) → (l : List A) → every f l ≡ true → every g l ≡ true
each_weaker f g w [] e = each_none g
each_weaker f g w (a ∷ l) e = each g a l (w a (each_first f a l e)) (each_weaker f g w l (each_rest f a l e))
