-- Who is printed as struck, and by whom.
use Rattle.std.specs.Prelude.{Bool, false, ◌&&◌, ◌||◌, List, [], ◌∷◌, ℕ, eqb}
use Rattle.replay_theorems.specs.Lines.{Line, struck, sent, queued, stopped}

-- the line says that p was struck by q
unfoldable pub says_struck : ℕ → ℕ → Line → Bool
says_struck p q (struck a b) = eqb a p && eqb b q
says_struck p q (sent row) = false
says_struck p q (queued number) = false
says_struck p q (stopped number index) = false

-- one of the lines says so
unfoldable pub struck_by : ℕ → ℕ → List Line → Bool
struck_by p q [] = false
struck_by p q (l ∷ ls) = says_struck p q l || struck_by p q ls
