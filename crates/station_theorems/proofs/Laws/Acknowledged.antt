-- Laws of an acknowledgement: the station that it leaves is whole, on the same ring, and hears on. Assumes nothing.
use mathlib.Core.Path.{◌≡◌, refl, sym, ap, ◌∙◌}
use mathlib.Core.Bool.{Bool, true, false}
use Prim.Native.Nat.{ℕ}
use borrow.Author.Tests.{not-true}
use Rattle.parts.specs.Choose.{pick}
use Rattle.parts.specs.Moves.{move_of, runs, is_waiting}
use Rattle.parts.specs.Frames.{flight}
use Rattle.station.specs.Stations.{state_of, awaited_of, alone, quiet}
use Rattle.station.specs.Strike.{leave}
use Rattle.station.specs.Heard.{acknowledged, landed, acknowledge}
use Rattle.wholeness.specs.Whole.{company_good}
use Rattle.parts.specs.declared.moves.State.{State}
use Rattle.parts.specs.declared.moves.State.TheVariants.{Idle}
use Rattle.parts.specs.declared.moves.Event.TheVariants.{Heard}
use Rattle.station.specs.declared.station.Station.{Station}
use Rattle.parts.proofs.Laws.Choose.{pick_and, map_or_either}
use Rattle.station_theorems.proofs.Laws.Based.{Based, sound_based, quiet_idle}
use Rattle.station_theorems.proofs.Laws.Struck.{left_based, still_based}
use Rattle.station_theorems.proofs.Laws.Sound.{Sound}
use Rattle.station_theorems.proofs.Laws.States.{waiting_is}

-- a sound station on the same ring
pub record Onward (s t : Station) : Type 0 where
  pub kept : Sound t
  pub same_n : t.n ≡ s.n
  pub same_own : t.own ≡ s.own

-- a Waiting station has company
waiting_company : (st : State) (a : Bool) → is_waiting st ≡ true → company_good st a ≡ true → a ≡ false
unfolding company_good
waiting_company st a w e = not-true a (ap (λ (x : State). company_good x a) (sym (waiting_is st w)) ∙ e)

-- one that hears on
pub record Hearing (s t : Station) : Type 0 where
  pub onward : Onward s t
  pub hears : move_of (state_of t) Heard ≡ runs

landed_idle : (s : Station) → Based (flight (awaited_of s)) s → alone s ≡ false → Hearing s (quiet (landed s) Idle)
unfolding landed
landed_idle s b a =
    map_or_either (λ (t : Station). Hearing s (quiet t Idle)) (leave s) (flight (awaited_of s)) s
    (λ p on. record { onward = record { kept = quiet_idle (leave s p) (left_based s (flight (awaited_of s)) b p on) a; same_n = refl; same_own = refl }; hears = refl })
    (λ off. record { onward = record { kept = quiet_idle s (still_based s (flight (awaited_of s)) b off) a; same_n = refl; same_own = refl }; hears = refl })

pub acknowledge_hearing : (s : Station) (from k : ℕ) → Sound s → move_of (state_of s) Heard ≡ runs → Hearing s (acknowledge s from k)
unfolding acknowledge acknowledged pick
acknowledge_hearing s from k h m = go (acknowledged s from k) refl
  where
    go : (t : Bool) → acknowledged s from k ≡ t → Hearing s (pick t (quiet (landed s) Idle) s)
    go true e = landed_idle s (sound_based s m h) (waiting_company (state_of s) (alone s) (pick_and e).0 h.company)
    go false e = record { onward = record { kept = h; same_n = refl; same_own = refl }; hears = m }
