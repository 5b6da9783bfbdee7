-- "A payload goes into the lowest free place."
use Rattle.std.specs.Prelude.{◌≡◌, ℕ, ◌<◌, ◌≤◌, length}
use mathlib.Core.List.{List, Memᴰ}
use Rattle.parts.specs.declared.list.Message.{Message}

-- p is no message's place, each lower number is some message's, and there is such a p below 16 wherever fewer than 16 messages are
pub record Lowest (ms : List Message) (p : ℕ) : Type 0 where
  pub at_most_sixteen : p ≤ 16
  pub nobodys : p < 16 → (m : Message) → Memᴰ m ms → m.place ≡ p → ⊥
  pub lower_somebodys : (q : ℕ) → q < p → (m : Message) × Memᴰ m ms × (m.place ≡ q)
  pub room : length ms < 16 → p < 16
