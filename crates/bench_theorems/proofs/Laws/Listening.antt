-- Laws of a station that a frame finds Idle, or waiting and acknowledges: it is Idle once the frame has acknowledged it.
-- Assumes nothing.
use mathlib.Core.Path.{◌≡◌, refl, sym, ap, subst, ◌∙◌}
use mathlib.Core.Bool.{true}
use Prim.Native.Nat.{ℕ}
use Rattle.parts.specs.Moves.{move_of, runs, is_waiting}
use Rattle.parts.specs.Frames.{number_of, flight, is_ahead, acknowledges, Dispatch}
use Rattle.station.specs.Stations.{state_of, awaited_of, quiet}
use Rattle.station.specs.Strike.{leave}
use Rattle.station.specs.Heard.{acknowledged, landed, acknowledge}
use Rattle.parts.specs.declared.moves.State.{State}
use Rattle.parts.specs.declared.moves.State.TheVariants.{Idle, Waiting}
use Rattle.parts.specs.declared.moves.Event.TheVariants.{Heard}
use Rattle.parts.specs.declared.frame.Frame.{Frame}
use Rattle.std.specs.Prelude.{Some}
use Rattle.station.specs.declared.station.Station.{Station}
use Rattle.parts.proofs.Laws.Choose.{pick_true, map_or_keeps}
use Rattle.bench.proofs.Laws.StandsBy.{unacknowledged}

-- Idle, or acknowledged by a frame from `from` with the number k
pub data Listens (from k : ℕ) (s : Station) : Type 0 where
  idle : state_of s ≡ Idle → Listens from k s
  waits : state_of s ≡ Waiting → acknowledged s from k ≡ true → Listens from k s

-- the same place, live set and last handled number
pub record SameSeat (s t : Station) : Type 0 where
  pub same_n : t.n ≡ s.n
  pub same_limit : t.limit ≡ s.limit
  pub same_own : t.own ≡ s.own
  pub same_live : t.live ≡ s.live
  pub same_handled : t.turn.handled ≡ s.turn.handled

pub record Rested (s t : Station) : Type 0 where
  pub seat : SameSeat s t
  pub at_rest : state_of t ≡ Idle

pub listens_runs : {from k : ℕ} {s : Station} → Listens from k s → move_of (state_of s) Heard ≡ runs
listens_runs (idle i) = ap (λ (st : State). move_of st Heard) i
listens_runs (waits w e) = ap (λ (st : State). move_of st Heard) w

-- a station that waits is acknowledged by a number that lies ahead of its frame's
pub ahead_acknowledges : (s : Station) (from k : ℕ) (g : Frame) (to : ℕ) → state_of s ≡ Waiting → awaited_of s ≡ Some (g, to)
    → acknowledged s from k ≡ is_ahead (number_of g) k
unfolding acknowledged acknowledges
ahead_acknowledges s from k g to w a = pick_true _ _ (ap is_waiting w) ∙ ap (λ (d : Dispatch). acknowledges d from k) a

pub acknowledged_by : (s : Station) (from k : ℕ) → acknowledged s from k ≡ true → acknowledge s from k ≡ quiet (landed s) Idle
unfolding acknowledge
acknowledged_by s from k e = pick_true _ _ e

landed_seat : (s : Station) → SameSeat s (quiet (landed s) Idle)
unfolding landed
landed_seat s =
    map_or_keeps (λ (t : Station). SameSeat s (quiet t Idle)) (leave s) (flight (awaited_of s)) s
    (λ p. record { same_n = refl; same_limit = refl; same_own = refl; same_live = refl; same_handled = refl })
    (record { same_n = refl; same_limit = refl; same_own = refl; same_live = refl; same_handled = refl })

pub idle_stays : (s : Station) (from k : ℕ) → state_of s ≡ Idle → acknowledge s from k ≡ s
idle_stays s from k i = unacknowledged s from k (ap is_waiting i)

pub rested : {from k : ℕ} {s : Station} → Listens from k s → Rested s (acknowledge s from k)
rested {from} {k} {s} (idle i) =
    subst (Rested s) (sym (idle_stays s from k i))
    (record {
      seat = record { same_n = refl; same_limit = refl; same_own = refl; same_live = refl; same_handled = refl };
      at_rest = i;
    })
rested {from} {k} {s} (waits w e) = subst (Rested s) (sym (acknowledged_by s from k e)) (record { seat = landed_seat s; at_rest = refl })
