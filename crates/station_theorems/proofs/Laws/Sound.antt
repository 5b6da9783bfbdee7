-- A whole station, part by part; and what comes before a call acts. Assumes nothing.
use mathlib.Core.Path.{◌≡◌, refl}
use mathlib.Core.Bool.{Bool, true, false}
use Prim.Native.Nat.{ℕ, ◌≤◌}
use lib.Dec.{eqb}
use borrow.Author.Tests.{leb-true, le-leb, eqb-true}
use Rattle.parts.specs.Choose.{pick}
use Rattle.parts.specs.Moves.{move_of, runs}
use Rattle.parts.specs.Messages.{all}
use Rattle.parts.specs.Frames.{flight}
use Rattle.station.specs.Stations.{state_of, awaited_of, alone, answered, moved, unless}
use Rattle.wholeness.specs.Whole.{ring_good, seats_good, company_good, list_good, lists_good, waiters_good, awaited_good, turn_fits, whole}
use Rattle.parts.specs.declared.moves.Event.{Event}
use Rattle.station.specs.declared.station.Turn.{Turn}
use Rattle.station.specs.declared.station.Station.{Station}
use Rattle.station.specs.declared.station.Answer.{Answer}
use Rattle.parts.proofs.Laws.Tests.{held, hold}
use Rattle.station_theorems.specs.Shaped.{Shaped, WholeStation}

-- whole, part by part
pub record Sound (s : Station) : Type 0 where
  pub shaped : Shaped s
  pub ring : ring_good s.n s.limit s.own ≡ true
  pub seats : seats_good (state_of s) s.n s.own 0 s.live.on ≡ true
  pub company : company_good (state_of s) (alone s) ≡ true
  pub sends : list_good s.n s.own s.sends ≡ true
  pub receives : list_good s.n s.own s.receives ≡ true
  pub waiters : waiters_good (state_of s) s.live (flight (awaited_of s)) (all s.sends) ≡ true
  pub retries : turn_fits s.turn s.limit ≡ true
  pub awaited : awaited_good (state_of s) s.n s.own s.sends (awaited_of s) ≡ true

pub sound : (s : Station) → Shaped s → whole s ≡ true → Sound s
unfolding whole lists_good
sound s h w =
    let t = held _ w in
    let l = held _ t.1.1.1.0 in
    record {
      shaped = h;
      ring = t.0;
      seats = t.1.0;
      company = t.1.1.0;
      sends = l.0;
      receives = l.1.0;
      waiters = t.1.1.1.1.0;
      retries = t.1.1.1.1.1.0;
      awaited = t.1.1.1.1.1.1.0;
    }

pub sound_whole : (s : Station) → Sound s → whole s ≡ true
unfolding whole lists_good
sound_whole s k =
    hold _
    (k.ring, (k.seats, (k.company, (hold _ (k.sends, (k.receives, tt)), (k.waiters, (k.retries, (k.awaited, tt)))))))

pub whole_sound : (s : Station) → WholeStation s → Sound s
whole_sound s w = sound s w.shaped w.is_whole

pub whole_station : (s : Station) → Sound s → WholeStation s
whole_station s k = record { shaped = k.shaped; is_whole = sound_whole s k }

-- ---- the turn

pub turn_fits_lem : (t : Turn) (limit : ℕ) → t.retries ≤ limit → turn_fits t limit ≡ true
turn_fits_lem t limit h = hold _ (le-leb _ _ h, tt)

pub retries_of : (t : Turn) (limit : ℕ) → turn_fits t limit ≡ true → t.retries ≤ limit
retries_of t limit e = leb-true _ _ (held _ e).0

-- ---- a call that is stopped or refused leaves the station as it is

module _ (s : Station) (kept : Sound s) where
  pub moved_sound : (e : Event) (a : Answer) → (move_of (state_of s) e ≡ runs → Sound a.station) → Sound (moved s e a).station
  unfolding moved pick
  moved_sound e a k = go (eqb (move_of (state_of s) e) runs) refl
    where
      go : (b : Bool) → eqb (move_of (state_of s) e) runs ≡ b → Sound (pick b a (answered s (move_of (state_of s) e))).station
      go true t = k (eqb-true _ _ t)
      go false t = kept

  pub unless_sound : (number : ℕ) (a : Answer) → (number ≡ 0 → Sound a.station) → Sound (unless s number a).station
  unfolding unless pick
  unless_sound number a k = go (eqb number 0) refl
    where
      go : (b : Bool) → eqb number 0 ≡ b → Sound (pick b a (answered s number)).station
      go true t = k (eqb-true _ _ t)
      go false t = kept
