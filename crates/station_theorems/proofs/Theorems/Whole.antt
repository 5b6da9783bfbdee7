-- "A record is whole if ...", in plain facts: what `whole` says of a station, and all that it says. Assumes nothing.
use mathlib.Core.Path.{◌≡◌, refl, sym, ap, ◌∙◌}
use mathlib.Core.Bool.{Bool, true, false, false≢true, ◌||◌}
use mathlib.Core.List.{List, Memᴰ}
use borrow.Author.Tests.{eqb-true, eq-eqb}
use Rattle.parts.specs.Choose.{pick, every}
use Rattle.parts.specs.Moves.{is_excluded}
use Rattle.parts.specs.Messages.{all, flies}
use Rattle.parts.specs.Live.{live_at}
use Rattle.parts.specs.Frames.{flight, Dispatch}
use Rattle.station.specs.Stations.{state_of, awaited_of}
use Rattle.wholeness.specs.Whole.{waits_well, waiters_good, whole}
use Rattle.parts.specs.declared.moves.State.{State}
use Rattle.parts.specs.declared.moves.State.TheVariants.{Excluded}
use Rattle.parts.specs.declared.live.Live.{Live}
use Rattle.parts.specs.declared.list.Message.{Message}
use Rattle.parts.specs.declared.frame.Frame.TheVariants.{Token, Transmit, Information}
use Rattle.std.specs.Prelude.{None, Some}
use Rattle.station.specs.declared.station.Station.{Station}
use Rattle.parts.proofs.Laws.Choose.{pick_true, pick_false}
use Rattle.station_theorems.specs.Whole.{InFlight, Whole}
use Rattle.station_theorems.specs.Shaped.{Shaped}
use Rattle.station_theorems.proofs.Laws.States.{excluded_is}
use Rattle.station_theorems.proofs.Laws.Kept.{list_apart}
use Rattle.station_theorems.proofs.Laws.Members.{each_member, each_of}
use Rattle.station_theorems.proofs.Laws.Based.{ringed, ring_good_lem}
use Rattle.station_theorems.proofs.Laws.Sound.{sound, sound_whole, turn_fits_lem, retries_of}
use Rattle.station_theorems.proofs.Theorems.LiveSet.{live_set, seats_live, company_good_lem}
use Rattle.station_theorems.proofs.Theorems.GoodList.{good_list, list_good_lem}
use Rattle.station_theorems.proofs.Theorems.Awaited.{awaited_is, is_awaited}

-- ---- in flight, or waiting

flying : (d : Dispatch) (m : Message) → flies (flight d) m ≡ true → InFlight d m
flying None m e = absurd (false≢true e)
flying (Some (Token t, to)) m e = absurd (false≢true e)
flying (Some (Transmit t, to)) m e = absurd (false≢true e)
flying (Some (Information i, to)) m e =
    record { frame = i; to = to; its_place = eqb-true i.place m.place e; awaited = refl }

flown : (d : Dispatch) (m : Message) → InFlight d m → flies (flight d) m ≡ true
flown d m k = ap (λ (x : Dispatch). flies (flight x) m) k.awaited ∙ eq-eqb k.frame.place m.place k.its_place

module _ (st : State) (l : Live) (d : Dispatch) (ms : List Message) where
  waiting_is : waiters_good st l (flight d) ms ≡ true → (st ≡ Excluded → ⊥) → (m : Message) → Memᴰ m ms → (InFlight d m → ⊥) → live_at l m.other ≡ true
  unfolding waiters_good waits_well
  waiting_is e x m h w = go (is_excluded st) refl e (flies (flight d) m) refl
    where
      go : (b : Bool) → is_excluded st ≡ b → pick b true (every (waits_well l (flight d)) ms) ≡ true → (t : Bool) → flies (flight d) m ≡ t → live_at l m.other ≡ true
      go true b r t f = absurd (x (excluded_is st b))
      go false b r true f = absurd (w (flying d m f))
      go false b r false f =
          ap (λ (t : Bool). t || live_at l m.other) (sym f) ∙ each_member (waits_well l (flight d)) h (sym (pick_false _ _ refl) ∙ r)

  is_waiting : ((st ≡ Excluded → ⊥) → (m : Message) → Memᴰ m ms → (InFlight d m → ⊥) → live_at l m.other ≡ true) → waiters_good st l (flight d) ms ≡ true
  unfolding waiters_good waits_well
  is_waiting k = go (is_excluded st) refl
    where
      one : is_excluded st ≡ false → (m : Message) → Memᴰ m ms → (t : Bool) → flies (flight d) m ≡ t → (t || live_at l m.other) ≡ true
      one b m h true f = refl
      one b m h false f = k (λ q. false≢true (sym b ∙ ap is_excluded q)) m h (λ w. false≢true (sym f ∙ flown d m w))

      go : (b : Bool) → is_excluded st ≡ b → pick b true (every (waits_well l (flight d)) ms) ≡ true
      go true b = pick_true _ _ refl
      go false b = pick_false _ _ refl ∙ each_of (waits_well l (flight d)) ms (λ m h. one b m h (flies (flight d) m) refl)

-- ---- whole, in plain facts

pub whole_is : (s : Station) → Shaped s → whole s ≡ true → Whole s
whole_is s h w =
    let k = sound s h w in
    let r = ringed s.n s.limit s.own k.ring in
    record {
      good_ring = r;
      live_set = live_set (state_of s) s.n s.own s.live h.seats r.most_members r.member k.seats k.company;
      sends = good_list s.n s.own s.sends h.sends k.sends;
      receives = good_list s.n s.own s.receives h.receives k.receives;
      waiting_to_live = waiting_is (state_of s) s.live (awaited_of s) (all s.sends) k.waiters;
      retries_fit = retries_of s.turn s.limit k.retries;
      awaited = awaited_is (state_of s) s.n s.own s.sends (awaited_of s) k.awaited;
    }

-- and the facts are all that it asks for
pub is_whole : (s : Station) → Shaped s → Whole s → whole s ≡ true
is_whole s h k =
    let good = list_good_lem s.n s.own s.sends h.sends k.sends in
    sound_whole s
    (record {
      shaped = h;
      ring = ring_good_lem s.n s.limit s.own k.good_ring;
      seats = seats_live s.n s.own s.live h.seats k.good_ring.most_members k.good_ring.member (state_of s) k.live_set;
      company = company_good_lem s.n s.own s.live h.seats k.good_ring.most_members k.good_ring.member (state_of s) k.live_set;
      sends = good;
      receives = list_good_lem s.n s.own s.receives h.receives k.receives;
      waiters = is_waiting (state_of s) s.live (awaited_of s) (all s.sends) k.waiting_to_live;
      retries = turn_fits_lem s.turn s.limit k.retries_fit;
      awaited = is_awaited (state_of s) s.n s.own s.sends (list_apart s.n s.own s.sends good) (awaited_of s) k.awaited;
    })
