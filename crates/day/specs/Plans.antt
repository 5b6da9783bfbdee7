-- What a record asks for: whom it hands a frame, and which station it calls.
use Rattle.std.specs.Prelude.{Bool, true, false, List, [], ◌∷◌, ℕ, ltb, length, Option, None, Some}
use Rattle.parts.specs.Live.{seats}
use Rattle.bench.specs.Delivery.{is_quiet}
use Rattle.bench.specs.Table.{no_frame}
use Rattle.bench.specs.declared.table.Handing.{Handing}
use Rattle.capture.specs.declared.record.Event.{Event}
use Rattle.capture.specs.declared.record.Event.TheVariants.{Delivered, LostForAddressee, LostForAll, Timer, Queue}
use Rattle.day.specs.Day.{most_frames}
use Rattle.day.specs.declared.wire.Flying.{Flying}
use Rattle.day.specs.declared.calls.Call.{Call}
use Rattle.day.specs.declared.calls.Call.TheVariants.{TimerCall, QueueCall}
use Rattle.day.specs.declared.plan.Plan.{Plan}

-- nobody is handed anything
abbrev pub no_handing : Handing
no_handing = record { n = 0; m = 0; frame = no_frame; quiet = true; from = 0; to = 0; lost = false }

-- the oldest frame is handed round
unfoldable pub handing_with : ℕ → Bool → List Flying → Handing
handing_with n lost [] = no_handing
handing_with n lost (f ∷ rest) =
    record { n = n; m = seats n; frame = f.frame; quiet = is_quiet f.frame; from = f.from; to = f.to; lost = lost }

unfoldable pub handing_for : ℕ → List Flying → Event → Handing
handing_for n wire Delivered = handing_with n false wire
handing_for n wire LostForAddressee = handing_with n true wire
handing_for n wire LostForAll = no_handing
handing_for n wire (Timer station) = no_handing
handing_for n wire (Queue station request) = no_handing

abbrev pub call_for : List Flying → Event → Option Call
call_for wire Delivered = None
call_for wire LostForAddressee = None
call_for wire LostForAll = None
call_for wire (Timer station) = Some (TimerCall (ltb (length wire) most_frames))
call_for wire (Queue station request) = Some (QueueCall request)

abbrev pub place_for : Event → ℕ
place_for Delivered = 0
place_for LostForAddressee = 0
place_for LostForAll = 0
place_for (Timer station) = station
place_for (Queue station request) = station

abbrev pub plan_of : Handing → ℕ → Option Call → Plan
plan_of handing place call = record { handing = handing; place = place; call = call }

abbrev pub no_plan : Plan
no_plan = plan_of no_handing 0 None
