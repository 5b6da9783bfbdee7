-- Laws of an order of checks. Assumes nothing.
use mathlib.Core.Path.{◌≡◌, refl, ap}
use mathlib.Core.Bool.{Bool, true, false, cond}
use mathlib.Core.List.{List, [], ◌∷◌, ◌++◌}
use Rattle.codec.specs.Order.{first_of}

module _ {A : Type 0} where
  -- tests behind others are asked where none of those holds
  pub first_append : (d : A) (ts us : List (Bool × A)) → first_of d (ts ++ us) ≡ first_of (first_of d us) ts
  first_append d [] us = refl
  first_append d (t ∷ ts) us = ap (cond t.0 t.1) (first_append d ts us)

  -- each test's answer is another than d
  abbrev pub Apart : A → List (Bool × A) → Type 0
  Apart d [] = Unit {0}
  Apart d (t ∷ ts) = (t.1 ≡ d → ⊥) × Apart d ts

  -- no test holds
  abbrev pub NoneHolds : List (Bool × A) → Type 0
  NoneHolds [] = Unit {0}
  NoneHolds (t ∷ ts) = (t.0 ≡ false) × NoneHolds ts

  -- an answer that no test gives says that none holds
  pub none_gives : (d x : A) (ts : List (Bool × A)) → Apart x ts → first_of d ts ≡ x → NoneHolds ts
  none_gives d x [] a e = tt
  none_gives d x (t ∷ ts) a e = go t.0 refl e (none_gives d x ts a.1)
    where
      go : (b : Bool) → t.0 ≡ b → cond b t.1 (first_of d ts) ≡ x → (first_of d ts ≡ x → NoneHolds ts) → (t.0 ≡ false) × NoneHolds ts
      go true h e' rest = absurd (a.0 e')
      go false h e' rest = (h, rest e')

  pub none_holds : (d : A) (ts : List (Bool × A)) → Apart d ts → first_of d ts ≡ d → NoneHolds ts
  none_holds d ts a e = none_gives d d ts a e

  pub first_passed : (d : A) (ts : List (Bool × A)) → NoneHolds ts → first_of d ts ≡ d
  first_passed d [] n = refl
  first_passed d (t ∷ ts) n = rw n.0 (first_passed d ts n.1)

  -- so a list of tests that gives d lets what is behind it be asked
  pub first_none : (d x : A) (ts : List (Bool × A)) → Apart d ts → first_of d ts ≡ d → first_of x ts ≡ x
  first_none d x ts a e = first_passed x ts (none_holds d ts a e)

  -- and one that gives another answer gives that answer, whatever is behind
  pub first_some : (d x : A) (ts : List (Bool × A)) → (first_of d ts ≡ d → ⊥) → first_of x ts ≡ first_of d ts
  first_some d x [] n = absurd (n refl)
  first_some d x (t ∷ ts) n = go t.0 n (first_some d x ts)
    where
      go : (b : Bool) → (cond b t.1 (first_of d ts) ≡ d → ⊥) → ((first_of d ts ≡ d → ⊥) → first_of x ts ≡ first_of d ts)
          → cond b t.1 (first_of x ts) ≡ cond b t.1 (first_of d ts)
      go true m rest = refl
      go false m rest = rest m

  -- lists of tests one after the other

  pub none_append : (ts us : List (Bool × A)) → NoneHolds ts → NoneHolds us → NoneHolds (ts ++ us)
  none_append [] us n m = m
  none_append (t ∷ ts) us n m = (n.0, none_append ts us n.1 m)

  pub none_split : (ts us : List (Bool × A)) → NoneHolds (ts ++ us) → NoneHolds ts × NoneHolds us
  none_split [] us n = (tt, n)
  none_split (t ∷ ts) us n = let r = none_split ts us n.1 in ((n.0, r.0), r.1)

  pub apart_append : (d : A) (ts us : List (Bool × A)) → Apart d ts → Apart d us → Apart d (ts ++ us)
  apart_append d [] us a b = b
  apart_append d (t ∷ ts) us a b = (a.0, apart_append d ts us a.1 b)
