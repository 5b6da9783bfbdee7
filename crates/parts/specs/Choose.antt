-- Choices by tests.
use Rattle.std.specs.Prelude.{Bool, true, false, List, [], ◌∷◌}

-- `a` where the test holds, else `b`
unfoldable pub pick : {A : Type 0} → Bool → A → A → A
pick true a b = a
pick false a b = b

-- whether every test holds
unfoldable pub all_of : List Bool → Bool
all_of [] = true
all_of (t ∷ ts) = pick t (all_of ts) false

-- whether the test holds of each element
unfoldable pub every : {A : Type 0} → (A → Bool) → List A → Bool
every f [] = true
every f (a ∷ rest) = pick (f a) (every f rest) false
