-- Laws of choices by tests. Assumes nothing.
use Rattle.std.proofs.Common.{◌≡◌, Bool, true, false, Option, None, Some, refl}
use Rattle.std.specs.Option.{option_map_or}
use Rattle.parts.specs.Choose.{pick}

module _ {A : Type 0} where
  pub pick_true : {b : Bool} (x y : A) → b ≡ true → pick b x y ≡ x
  unfolding pick
  pick_true x y e = rw e

  pub pick_false : {b : Bool} (x y : A) → b ≡ false → pick b x y ≡ y
  unfolding pick
  pick_false x y e = rw e

-- a conjunction of tests, one after the other
pub pick_and : {b c : Bool} → pick b c false ≡ true → (b ≡ true) × (c ≡ true)
unfolding pick
pick_and {b} {c} = go b
  where
    go : (b : Bool) → pick b c false ≡ true → (b ≡ true) × (c ≡ true)
    go true e = (refl, e)
    go false e = let z : false ≡ true = e in (z, absurd (mathlib.Core.Bool.false≢true z))

-- what holds of what is made of a value, and of what there is without one
module _ {A B : Type 0} (P : B → Type 0) (f : A → B) where
  pub map_or_keeps : (o : Option A) (b : B) → ((a : A) → P (f a)) → P b → P (option_map_or f o b)
  map_or_keeps None b p q = q
  map_or_keeps (Some a) b p q = p a

  pub map_or_either : (o : Option A) (b : B) → ((a : A) → o ≡ Some a → P (f a)) → (o ≡ None → P b) → P (option_map_or f o b)
  map_or_either None b p q = q refl
  map_or_either (Some a) b p q = p a refl
