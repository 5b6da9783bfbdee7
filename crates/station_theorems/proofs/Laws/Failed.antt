-- Laws of a token's failing station: the station that its striking leaves is whole, on the same ring. Assumes nothing.
use mathlib.Core.Path.{◌≡◌, refl, sym, ap, ◌∙◌}
use mathlib.Core.Bool.{Bool, true, false, not}
use Prim.Native.Nat.{ℕ}
use lib.Dec.{eqb}
use lib.ListN.{length}
use borrow.Author.Tests.{eqb-true, eqb-false}
use Rattle.parts.specs.Choose.{pick}
use Rattle.parts.specs.Moves.{move_of, runs}
use Rattle.parts.specs.Messages.{split_by}
use Rattle.parts.specs.Live.{live_at, without}
use Rattle.parts.specs.Frames.{flight}
use Rattle.station.specs.Stations.{state_of, awaited_of, alone, quiet, counted, with_sends}
use Rattle.station.specs.Strike.{Loss, strike, nothing_gone, give_up_to, leave, told, stopped}
use Rattle.parts.specs.Live.{newly}
use Rattle.station.specs.Heard.{strike_other, strike_heard, failed}
use Rattle.wholeness.specs.Whole.{own_seat, other_seat, company_good, list_good, waiters_good, awaited_good}
use Rattle.parts.specs.declared.moves.State.TheVariants.{Alone, Excluded}
use Rattle.parts.specs.declared.moves.Event.TheVariants.{Heard}
use Rattle.parts.specs.declared.list.Messages.{Messages}
use Rattle.std.specs.Prelude.{Option, None, Some}
use Rattle.station.specs.declared.station.Station.{Station}
use Rattle.parts.proofs.Laws.Choose.{pick_true}
use Rattle.station_theorems.specs.Whole.{Ring}
use Rattle.station_theorems.proofs.Laws.Kept.{list_only}
use Rattle.station_theorems.proofs.Laws.Seats.{Seats, seated, seating, struck_off, struck_length, struck_fewer}
use Rattle.station_theorems.proofs.Laws.Based.{ringed, Based, sound_based, in_flight_lem, quiet_alone}
use Rattle.station_theorems.proofs.Laws.Struck.{kept_length, awaited_kept, flies_stays, staying, elsewhere, struck_based, left_based, still_based, counted_sound, flight_cases, stays_sound}
use Rattle.station_theorems.proofs.Laws.Sound.{Sound}
use Rattle.station_theorems.proofs.Laws.Acknowledged.{Onward}

-- ---- this station itself

excluded : (s : Station) (p : ℕ) → Sound s → p ≡ s.own → Onward s (stopped (nothing_gone (strike s p)) (newly s.live p) Excluded).station
unfolding own_seat other_seat company_good waiters_good awaited_good split_by
excluded s p k e =
    flight_cases (λ (m : Loss). Onward s (quiet (counted m.station m.gone.len) Excluded)) (nothing_gone (strike s p)) (flight (awaited_of s)) refl
    (in_flight_lem (state_of s) s.n s.own s.sends (awaited_of s) k.awaited)
    (λ off. record { kept = quits s.sends k.shaped.sends k.sends _; same_n = refl; same_own = refl })
    (λ r on g.
    record {
      kept =
          quits _ (kept_length s.n s.own s.sends k.sends (elsewhere r))
          (list_only s.n s.own (elsewhere r) s.sends k.sends) _;
      same_n = refl;
      same_own = refl;
    })
  where
    ring : Ring s.n s.limit s.own
    ring = ringed s.n s.limit s.own k.ring

    seats : Seats Excluded s.n s.own (without s.live p)
    seats =
        record {
          members = λ q on. (seated (state_of s) s.n s.own s.live k.shaped.seats ring.most_members ring.member k.seats).members q (struck_fewer s.live p k.shaped.seats q on);
          itself = ap not (ap (live_at (without s.live p)) (sym e) ∙ struck_off s.live p k.shaped.seats);
          others = λ q h o. refl;
        }

    quits : (l : Messages) → length l.items ≡ 16 → list_good s.n s.own l ≡ true → (c : ℕ)
        → Sound (quiet (counted (with_sends (strike s p) l) c) Excluded)
    quits l long good c =
        record {
          shaped = record { seats = struck_length s.live p ∙ k.shaped.seats; sends = long; receives = k.shaped.receives };
          ring = k.ring;
          seats = seating Excluded s.n s.own (without s.live p) (struck_length s.live p ∙ k.shaped.seats) ring.most_members ring.member seats;
          company = refl;
          sends = good;
          receives = k.receives;
          waiters = pick_true _ _ refl;
          retries = k.retries;
          awaited = refl;
        }

-- ---- another

other_struck : (s : Station) (p : ℕ) (w : Option ℕ) → Sound s → move_of (state_of s) Heard ≡ runs → (p ≡ s.own → ⊥) → Onward s (strike_other s p w).station
unfolding strike_other give_up_to split_by pick
other_struck s p w k m o = go (alone (strike s p)) refl
  where
    l : Loss
    l = give_up_to (strike s p) p

    based : Based (flight (awaited_of s)) l.station
    based = struck_based s (flight (awaited_of s)) (sound_based s m k) p o refl

    go : (t : Bool) → alone (strike s p) ≡ t → Onward s (pick t (stopped l w Alone) (told l w)).station
    go true a =
        flight_cases (λ (x : Loss). Onward s (quiet (counted x.station x.gone.len) Alone)) l (flight (awaited_of s)) refl based.flown
        (λ off. record { kept = counted_sound _ _ (quiet_alone l.station (still_based l.station (flight (awaited_of s)) based off) a); same_n = refl; same_own = refl })
        (λ r on g.
        record {
          kept = counted_sound _ _ (quiet_alone (leave l.station r) (left_based l.station (flight (awaited_of s)) based r on) a);
          same_n = refl;
          same_own = refl;
        })
    go false a =
        record {
          kept =
              counted_sound l.station _
              (stays_sound l.station m based a
              (awaited_kept s.sends (staying (flight (awaited_of s)) p) (state_of s) s.n s.own (awaited_of s) (λ x f. flies_stays (flight (awaited_of s)) p x f) k.awaited));
          same_n = refl;
          same_own = refl;
        }

heard_struck : (s : Station) (p : ℕ) → Sound s → move_of (state_of s) Heard ≡ runs → Onward s (strike_heard s p).station
unfolding strike_heard pick
heard_struck s p k m = go (eqb p s.own) refl
  where
    go : (t : Bool) → eqb p s.own ≡ t
        → Onward s (pick t (stopped (nothing_gone (strike s p)) (newly s.live p) Excluded) (strike_other s p (newly s.live p))).station
    go true e = excluded s p k (eqb-true _ _ e)
    go false e = other_struck s p (newly s.live p) k m (eqb-false _ _ e)

pub failed_onward : (s : Station) (w : Option ℕ) → Sound s → move_of (state_of s) Heard ≡ runs → Onward s (failed s w).station
unfolding failed
failed_onward s None k m = record { kept = k; same_n = refl; same_own = refl }
failed_onward s (Some p) k m = heard_struck s p k m
