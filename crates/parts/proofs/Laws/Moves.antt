-- The table of moves, entry by entry. Assumes nothing.
use Rattle.std.proofs.Common.{◌≡◌, ℕ, ◌<◌, List, [], ◌∷◌, get_or, refl, arith}
use Rattle.parts.specs.declared.moves.State.{State}
use Rattle.parts.specs.declared.moves.State.TheVariants.{Offline, Idle, Waiting, Alone, Excluded}
use Rattle.parts.specs.declared.moves.Event.{Event}
use Rattle.parts.specs.declared.moves.Event.TheVariants.{Start, Heard, Timer, Queue, Take}
use Rattle.parts.specs.Moves.{state_number, event_number, on, move_of}

pub state_below : (s : State) → state_number s < 5
state_below Offline = omega arith
state_below Idle = omega arith
state_below Waiting = omega arith
state_below Alone = omega arith
state_below Excluded = omega arith

pub event_below : (e : Event) → event_number e < 5
event_below Start = omega arith
event_below Heard = omega arith
event_below Timer = omega arith
event_below Queue = omega arith
event_below Take = omega arith

-- a row's entry is the one that the event names
entry : (a b c d k : ℕ) (e : Event) → get_or (a ∷ b ∷ c ∷ d ∷ k ∷ []) (event_number e) 0 ≡ on e a b c d k
entry a b c d k Start = refl
entry a b c d k Heard = refl
entry a b c d k Timer = refl
entry a b c d k Queue = refl
entry a b c d k Take = refl

-- the table as the source has it
abbrev pub rows : List (List ℕ)
rows =
    (100 ∷ 22 ∷ 22 ∷ 22 ∷ 100 ∷ [])
    ∷ (23 ∷ 100 ∷ 0 ∷ 100 ∷ 100 ∷ [])
    ∷ (23 ∷ 100 ∷ 100 ∷ 100 ∷ 100 ∷ [])
    ∷ (23 ∷ 22 ∷ 22 ∷ 22 ∷ 100 ∷ [])
    ∷ (23 ∷ 22 ∷ 22 ∷ 22 ∷ 100 ∷ [])
    ∷ []

-- each of its entries is the move
table : (s : State) (e : Event) → get_or (get_or rows (state_number s) []) (event_number e) 0 ≡ move_of s e
table Offline e = entry 100 22 22 22 100 e
table Idle e = entry 23 100 0 100 100 e
table Waiting e = entry 23 100 100 100 100 e
table Alone e = entry 23 22 22 22 100 e
table Excluded e = entry 23 22 22 22 100 e

pub table_at : (s : State) (e : Event) (i j : ℕ) → i ≡ state_number s → j ≡ event_number e → get_or (get_or rows i []) j 0 ≡ move_of s e
table_at s e i j p q = rw (p, q) (table s e)
