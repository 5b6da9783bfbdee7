-- Two answers that a contract allows are the same. Each public contract says of its answer, and of each buffer lent to it, `it ≡ definition`,
-- where the definition names only what was handed in; this is the form that the theorem covers. Assumes nothing.
use mathlib.Core.Path.{◌≡◌, sym, ◌∙◌}

pub one_answer : {A : Type 0} {definition first second : A} → first ≡ definition → second ≡ definition → first ≡ second
one_answer p q = p ∙ sym q
