-- What the ring file says of a queue record: whether its destination listens on its channel.
use Rattle.std.specs.Prelude.{Bool, List, [], ℕ}
use Rattle.codec.specs.Ring.{listens}
use Rattle.parts.specs.declared.request.Request.{Request}
use Rattle.capture.specs.declared.record.Event.{Event}
use Rattle.capture.specs.declared.record.Event.TheVariants.{Delivered, LostForAddressee, LostForAll, Timer, Queue}
use Rattle.capture.specs.declared.record.Read.{Read}
use Rattle.capture.specs.declared.record.Read.TheVariants.{End, Refused, Good}

-- who listens on which channel, in a ring of n with these open channels
abbrev pub heard_in : ℕ → List ℕ → ℕ → ℕ → Bool
heard_in n channels = listens (record { form = 2; n = n; limit = 0; version = 1; addresses = []; channels = channels })

abbrev pub saying : Request → Bool → Request
saying q hears = record { to = q.to; priority = q.priority; channel = q.channel; length = q.length; listens = hears }

-- a record's event, where `hears` says who listens on which channel
abbrev pub asked : (ℕ → ℕ → Bool) → Event → Event
asked hears Delivered = Delivered
asked hears LostForAddressee = LostForAddressee
asked hears LostForAll = LostForAll
asked hears (Timer station) = Timer station
asked hears (Queue station q) = Queue station (saying q (hears q.to q.channel))

abbrev pub asked_read : (ℕ → ℕ → Bool) → Read → Read
asked_read hears End = End
asked_read hears (Refused number) = Refused number
asked_read hears (Good event next) = Good (asked hears event) next
