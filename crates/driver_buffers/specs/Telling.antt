-- What a driver is told: octets to send and to whom, the station newly struck, how many messages were given up, and each of them.
use Rattle.std.specs.Prelude.{ℕ, List, [], ◌∷◌, Option, None, Some}
use Rattle.parts.specs.Messages.{all, used}
use Rattle.parts.specs.declared.list.Message.{Message}
use Rattle.parts.specs.declared.list.Messages.{Messages}
use Rattle.parts.specs.Frames.{Dispatch}
use Rattle.records.specs.Tables.{joined}
use Rattle.driver_buffers.specs.Packets.{address_of, whom_address, sent_size, sent_to}

-- a message's other end, priority, channel, length and place
abbrev pub message_told : List ℕ → Message → List ℕ
message_told ring m = address_of ring m.other ∷ m.priority ∷ m.channel ∷ m.length ∷ m.place ∷ []

abbrev pub gone_told : List ℕ → Messages → List ℕ
gone_told ring gone = joined (message_told ring) (all gone)

-- 0 octets to 0 for no frame; 0 for nobody struck
abbrev pub told_of : List ℕ → Dispatch → Option ℕ → Messages → List ℕ
told_of ring sent struck gone = sent_size ring sent ∷ sent_to ring sent ∷ whom_address ring struck ∷ used gone ∷ gone_told ring gone

-- take: sender, priority, channel, length
unfoldable pub taken_told : List ℕ → Option Message → List ℕ
taken_told ring None = 0 ∷ 0 ∷ 0 ∷ 0 ∷ []
taken_told ring (Some m) = address_of ring m.other ∷ m.priority ∷ m.channel ∷ m.length ∷ []
