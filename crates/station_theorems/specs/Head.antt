-- "The head is the waiting message with the highest priority, the earliest accepted among equals."
use Rattle.std.specs.Prelude.{◌≡◌, true, false, ◌<◌, ◌≤◌, Option, None, Some}
use mathlib.Core.List.{List, ◌∷◌, ◌++◌, Memᴰ}
use Rattle.parts.specs.declared.list.Message.{Message}
use Rattle.parts.specs.declared.list.Which.{Which}
use Rattle.parts.specs.Messages.{fits}

-- m stands in the list and fits; of those that fit, each before it is of a lower priority, and none behind it of a higher one
pub record First (w : Which) (ms : List Message) (m : Message) : Type 0 where
  pub before : List Message
  pub behind : List Message
  pub stands : ms ≡ before ++ (m ∷ behind)
  pub fitting : fits w m ≡ true
  pub lower_before : (x : Message) → Memᴰ x before → fits w x ≡ true → x.priority < m.priority
  pub none_higher_behind : (x : Message) → Memᴰ x behind → fits w x ≡ true → x.priority ≤ m.priority

-- what a search of the list has found
pub record Chosen (w : Which) (ms : List Message) (b : Option Message) : Type 0 where
  pub first : (m : Message) → b ≡ Some m → First w ms m
  pub none_fits : b ≡ None → (x : Message) → Memᴰ x ms → fits w x ≡ false
