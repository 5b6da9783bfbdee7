-- "Each list has at most 16 messages, each with its own place, priority, channel and length in range, and another member as its other
-- end", in plain facts.
use Rattle.std.specs.Prelude.{◌≡◌, ℕ, ◌<◌, ◌≤◌, length, get_or}
use mathlib.Core.List.{Memᴰ}
use Rattle.parts.specs.Messages.{all, blank}
use Rattle.parts.specs.declared.list.Message.{Message}
use Rattle.parts.specs.declared.list.Messages.{Messages}

-- fields in range, and another member as its other end
pub record GoodMessage (n own : ℕ) (m : Message) : Type 0 where
  pub place_fits : m.place < 16
  pub some_priority : m.priority ≡ 0 → ⊥
  pub channel_fits : m.channel ≤ 7
  pub length_fits : m.length ≤ 1492
  pub member : m.other < n
  pub another : m.other ≡ own → ⊥

pub record GoodList (n own : ℕ) (l : Messages) : Type 0 where
  pub at_most_sixteen : l.len ≤ 16
  pub each_good : (m : Message) → Memᴰ m (all l) → GoodMessage n own m
  pub own_places : (i j : ℕ) → i < j → j < length (all l) → (get_or (all l) i blank).place ≡ (get_or (all l) j blank).place → ⊥
  pub blank_behind : (i : ℕ) → l.len ≤ i → i < 16 → get_or l.items i blank ≡ blank
