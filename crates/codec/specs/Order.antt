-- An order of checks: a list of tests, each with its answer, of which the first that holds gives the answer.
use Rattle.std.specs.Prelude.{Bool, cond, List, [], ◌∷◌}

-- the answer of the first test that holds, and otherwise the one for the case that none does
abbrev pub first_of : {A : Type 0} → A → List (Bool × A) → A
first_of none [] = none
first_of none (t ∷ ts) = cond t.0 t.1 (first_of none ts)
