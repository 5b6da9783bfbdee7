-- Checks in their order: the number of the first that holds, or 0.
use Rattle.std.specs.Prelude.{ℕ, Bool, false, not, [], ◌∷◌, ◌==◌, nat_le, nat_lt, is_none, Option}
use Rattle.std.specs.Option.{option_map_or}
use Rattle.codec.specs.Order.{first_of}
use Rattle.codec.specs.Sizes.{most_information}
use Rattle.parts.specs.declared.list.Message.{Message}
use Rattle.parts.specs.declared.request.Request.{Request}

-- sender or addressee not a member, both the same, sender not live or this station
unfoldable pub heard_refusal : ℕ → ℕ → Bool → ℕ → ℕ → ℕ
heard_refusal n own alive from to =
    first_of 0
    ((nat_le n from, 13)
    ∷ (nat_le n to, 13)
    ∷ ((from == to), 13)
    ∷ (not alive, 13)
    ∷ ((from == own), 13)
    ∷ [])

-- priority 0 or above 255; destination not a member, or this station; struck out; channel above 7; the destination has that channel
-- closed; payload above 1,492; 16 messages in the send list
unfoldable pub queue_refusal : ℕ → ℕ → Bool → ℕ → Request → ℕ
queue_refusal n own live len q =
    first_of 0
    (((q.priority == 0), 14)
    ∷ (nat_lt 255 q.priority, 14)
    ∷ (nat_le n q.to, 15)
    ∷ ((q.to == own), 15)
    ∷ (not live, 16)
    ∷ (nat_lt 7 q.channel, 17)
    ∷ (not q.listens, 28)
    ∷ (nat_lt most_information q.length, 18)
    ∷ (nat_le 16 len, 19)
    ∷ [])

-- channel above 7; no message on the channel; take's room shorter than the message
unfoldable pub take_refusal : ℕ → Option Message → ℕ → ℕ
take_refusal channel b room =
    first_of 0
    ((nat_lt 7 channel, 17)
    ∷ (is_none b, 20)
    ∷ (option_map_or (λ (m : Message). nat_lt room m.length) b false, 21)
    ∷ [])
