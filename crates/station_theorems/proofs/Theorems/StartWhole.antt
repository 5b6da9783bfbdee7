-- Start keeps a whole station whole. Assumes nothing.
use mathlib.Core.Path.{◌≡◌, refl, sym, ap, ◌∙◌}
use mathlib.Core.Bool.{Bool, true, false, false≢true}
use Prim.Native.Nat.{ℕ, ◌<◌, ◌≤◌}
use native.Mathlib.Omega.{arith}
use lib.Dec.{eqb}
use borrow.Author.Tests.{eqb-true, eqb-false}
use Rattle.parts.specs.Choose.{pick}
use Rattle.parts.specs.Moves.{is_waiting, is_excluded}
use Rattle.parts.specs.Live.{live_at, successor}
use Rattle.station.specs.Stations.{state_of, awaited_of, alone, answered, quiet}
use Rattle.station.specs.Sight.{sight}
use Rattle.sent.specs.Round.{start_round}
use Rattle.station.specs.Start.{sent_first, started, start_rule}
use Rattle.wholeness.specs.Whole.{own_seat, other_seat}
use Rattle.parts.specs.declared.moves.State.TheVariants.{Offline, Idle}
use Rattle.parts.specs.declared.live.Live.{Live}
use Rattle.std.specs.Prelude.{None}
use Rattle.station.specs.declared.station.Station.{Station}
use Rattle.station_theorems.specs.Whole.{Ring}
use Rattle.station_theorems.specs.Shaped.{WholeStation}
use Rattle.station_theorems.proofs.Laws.States.{starts}
use Rattle.station_theorems.proofs.Laws.Seats.{Seats, seated}
use Rattle.station_theorems.proofs.Laws.Based.{ringed, Based, based_on, quiet_idle, sends_off, idle_flight}
use Rattle.station_theorems.proofs.Laws.Sending.{round_proper}
use Rattle.station_theorems.proofs.Laws.Sound.{Sound, whole_sound, whole_station, moved_sound}
use Rattle.station_theorems.proofs.Theorems.Successor.{successor_is}

-- where all members are live, there is another than own
not_alone : (l : Live) (n own : ℕ) → 2 ≤ n → own < n → ((p : ℕ) → p < n → (p ≡ own → ⊥) → live_at l p ≡ true) → eqb (successor l n own) own ≡ false
not_alone l n own h m on = go (eqb (successor l n own) own) refl (eqb own 0) refl
  where
    lives : (p : ℕ) → p < n → (p ≡ own → ⊥) → successor l n own ≡ own → ⊥
    lives p k o e = false≢true (sym ((successor_is n own m l).no_other e p k o) ∙ on p k o)

    go : (b : Bool) → eqb (successor l n own) own ≡ b → (c : Bool) → eqb own 0 ≡ c → eqb (successor l n own) own ≡ false
    go false e c t = e
    go true e true t = let z : own ≡ 0 = eqb-true own 0 t in absurd (lives 1 h (λ q. omega arith) (eqb-true _ _ e))
    go true e false t = let z : own ≡ 0 → ⊥ = eqb-false own 0 t in absurd (lives 0 (omega arith) (λ q. z (sym q)) (eqb-true _ _ e))

module _ (s : Station) (k : Sound s) (off : state_of s ≡ Offline) where
  ring : Ring s.n s.limit s.own
  ring = ringed s.n s.limit s.own k.ring

  all_live : Seats Offline s.n s.own s.live
  all_live = rw off at (seated (state_of s) s.n s.own s.live k.shaped.seats ring.most_members ring.member k.seats)

  others : alone s ≡ false
  unfolding other_seat
  others = not_alone s.live s.n s.own ring.some_members ring.member all_live.others

  based : Based None s
  unfolding own_seat
  based =
      based_on s k None (idle_flight (state_of s) s.n s.own s.sends (awaited_of s) (ap is_waiting off) k.awaited) (ap is_excluded off) all_live.itself

  started_sound : Sound (started s).station
  unfolding started pick
  started_sound = go (eqb s.own 0)
    where
      go : (b : Bool) → Sound (pick b (sent_first s (start_round (sight s) 0 None)) (answered (quiet s Idle) 0)).station
      go true = sends_off s based _ _ others (round_proper s ring.member k.sends others 0 None refl)
      go false = quiet_idle s based others

start_sound : (s : Station) → Sound s → Sound (start_rule s).station
unfolding start_rule
start_sound s k = moved_sound s k _ _ (λ r. started_sound s k (starts (state_of s) r))

pub start_keeps_whole : (s : Station) → WholeStation s → WholeStation (start_rule s).station
start_keeps_whole s w = whole_station _ (start_sound s (whole_sound s w))
