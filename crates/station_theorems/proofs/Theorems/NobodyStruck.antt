-- Start, queue and take strike nobody and give nothing up: the live set and the count stay. Assumes nothing.
use mathlib.Core.Path.{refl}
use mathlib.Core.Bool.{Bool, true, false}
use Prim.Native.Nat.{ℕ}
use lib.Dec.{eqb}
use Rattle.parts.specs.Choose.{pick}
use Rattle.station.specs.Stations.{answered, moved, unless}
use Rattle.station.specs.Start.{started, start_rule}
use Rattle.station.specs.Queue.{accepted, queue_rule}
use Rattle.station.specs.Take.{taking, take_rule}
use Rattle.parts.specs.declared.list.Message.{Message}
use Rattle.parts.specs.declared.request.Request.{Request}
use Rattle.parts.specs.declared.moves.Event.{Event}
use Rattle.station.specs.declared.station.Station.{Station}
use Rattle.station.specs.declared.station.Answer.{Answer}
use Rattle.station_theorems.specs.NobodyStruck.{StrikesNobody}

number_alone : (s : Station) (number : ℕ) → StrikesNobody s (answered s number)
number_alone s number = record { nobody_struck = refl; live_kept = refl; none_given_up = refl; count_kept = refl }

either : {s : Station} {a b : Answer} (t : Bool) → StrikesNobody s a → StrikesNobody s b → StrikesNobody s (pick t a b)
unfolding pick
either true f g = f
either false f g = g

-- what stands before a call keeps this
pub nobody_moved : (s : Station) (e : Event) {a : Answer} → StrikesNobody s a → StrikesNobody s (moved s e a)
unfolding moved
nobody_moved s e f = either _ f (number_alone s _)

pub nobody_unless : (s : Station) (number : ℕ) {a : Answer} → StrikesNobody s a → StrikesNobody s (unless s number a)
unfolding unless
nobody_unless s number f = either _ f (number_alone s _)

started_nobody : (s : Station) → StrikesNobody s (started s)
unfolding started
started_nobody s =
    either (eqb s.own 0)
    (record { nobody_struck = refl; live_kept = refl; none_given_up = refl; count_kept = refl })
    (record { nobody_struck = refl; live_kept = refl; none_given_up = refl; count_kept = refl })

accepted_nobody : (s : Station) (q : Request) → StrikesNobody s (accepted s q)
unfolding accepted
accepted_nobody s q = record { nobody_struck = refl; live_kept = refl; none_given_up = refl; count_kept = refl }

taking_nobody : (s : Station) (m : Message) → StrikesNobody s (taking s m)
unfolding taking
taking_nobody s m = record { nobody_struck = refl; live_kept = refl; none_given_up = refl; count_kept = refl }

-- ---- the three calls

pub start_strikes_nobody : (s : Station) → StrikesNobody s (start_rule s)
unfolding start_rule
start_strikes_nobody s = nobody_moved s _ (started_nobody s)

pub queue_strikes_nobody : (s : Station) (q : Request) → StrikesNobody s (queue_rule s q)
unfolding queue_rule
queue_strikes_nobody s q = nobody_moved s _ (nobody_unless s _ (accepted_nobody s q))

pub take_strikes_nobody : (s : Station) (channel room : ℕ) → StrikesNobody s (take_rule s channel room)
unfolding take_rule
take_strikes_nobody s channel room = nobody_moved s _ (nobody_unless s _ (taking_nobody s _))
