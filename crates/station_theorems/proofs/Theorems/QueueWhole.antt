-- Queue keeps a whole station whole. Assumes nothing.
use mathlib.Core.Path.{◌≡◌, refl, sym, ap, ◌∙◌}
use mathlib.Core.Bool.{Bool, true, false, not, ◌||◌}
use mathlib.Core.List.{List, [], ◌∷◌, ◌++◌}
use Prim.Native.Nat.{ℕ, ◌<◌}
use native.Mathlib.Omega.{arith}
use lib.ListN.{length, length-take}
use borrow.Author.Tests.{lt-ltb, le-leb, ne_eqb}
use Rattle.station_theorems.proofs.Laws.Based.{same_message_there}
use Rattle.parts.specs.Choose.{pick, every}
use Rattle.parts.specs.Moves.{is_excluded}
use Rattle.parts.specs.Messages.{all, flies, pushed, has_place, lowest_free, best, best_of}
use Rattle.parts.specs.Live.{live_at}
use Rattle.station.specs.Queue.{new_message, accepted, queue_number, queue_rule}
use Rattle.wholeness.specs.Whole.{message_good, waits_well, waiters_good, carried, awaited_good, same_message}
use Rattle.parts.specs.declared.moves.State.{State}
use Rattle.parts.specs.declared.live.Live.{Live}
use Rattle.parts.specs.declared.list.Message.{Message}
use Rattle.parts.specs.declared.list.Messages.{Messages}
use Rattle.parts.specs.declared.list.Which.TheVariants.{HasPlace}
use Rattle.parts.specs.declared.request.Request.{Request}
use Rattle.parts.specs.declared.frame.Frame.{Frame}
use Rattle.parts.specs.declared.frame.Frame.TheVariants.{Token, Transmit, Information}
use Rattle.parts.specs.Frames.{Dispatch}
use Rattle.std.specs.Prelude.{Option, None, Some}
use Rattle.station.specs.declared.station.Station.{Station}
use Rattle.parts.proofs.Laws.Choose.{pick_true, pick_false}
use Rattle.station_theorems.specs.Shaped.{WholeStation}
use Rattle.station_theorems.proofs.Laws.Places.{lowest_free_free, lowest_free_room}
use Rattle.parts.proofs.Laws.Queue.{queue_good}
use Rattle.parts.proofs.Laws.Tests.{held, hold, each_snoc}
use Rattle.station_theorems.proofs.Laws.Kept.{push_all, push_length, list_pushed}
use Rattle.station_theorems.proofs.Laws.Carried.{best_pushed}
use Rattle.station_theorems.proofs.Laws.Sound.{Sound, whole_sound, whole_station, moved_sound, unless_sound}

-- one more waiter, to a live station
waiters_pushed : (st : State) (l : Live) (f : Option ℕ) (ms : List Message) (m : Message) → live_at l m.other ≡ true
    → waiters_good st l f ms ≡ true → waiters_good st l f (ms ++ m ∷ []) ≡ true
unfolding waiters_good waits_well
waiters_pushed st l f ms m h = go (is_excluded st)
  where
    well : (b : Bool) → (b || live_at l m.other) ≡ true
    well true = refl
    well false = h

    go : (b : Bool) → pick b true (every (waits_well l f) ms) ≡ true → pick b true (every (waits_well l f) (ms ++ m ∷ [])) ≡ true
    go true e = pick_true _ _ refl
    go false e = pick_false _ _ refl ∙ each_snoc (waits_well l f) ms m (sym (pick_false _ _ refl) ∙ e) (well (flies f m))

-- the message in flight stays
module _ (l : Messages) (m : Message) (full : length l.items ≡ 16) (room : l.len < 16) (free : has_place (all l) m.place ≡ false) where
  carried_pushed : (f : Frame) (to : ℕ) → carried l f to ≡ true → carried (pushed l m) f to ≡ true
  unfolding carried best same_message
  carried_pushed (Token t) to e = refl
  carried_pushed (Transmit t) to e = refl
  carried_pushed (Information i) to e = ap (λ (b : Option Message). same_message b to i) same ∙ e
    where
      same : best (HasPlace i.place) (pushed l m) ≡ best (HasPlace i.place) l
      same = ap (λ (ms : List Message). best_of (HasPlace i.place) ms None) (push_all l m full room) ∙ best_pushed i.place (all l) m (same_message_there _ to i e) free

  awaited_pushed : (st : State) (n own : ℕ) (d : Dispatch) → awaited_good st n own l d ≡ true → awaited_good st n own (pushed l m) d ≡ true
  unfolding awaited_good
  awaited_pushed st n own None e = e
  awaited_pushed st n own (Some (f, to)) e =
      let t = held _ e in
      hold _ (t.0, (t.1.0, (t.1.1.0, (t.1.1.1.0, (carried_pushed f to t.1.1.1.1.0, tt)))))

module _ (s : Station) (q : Request) where
  accepted_sound : Sound s → queue_number s q ≡ 0 → Sound (accepted s q).station
  unfolding accepted message_good
  accepted_sound k z =
      let g = queue_good s.n s.own (live_at s.live q.to) s.sends.len q z in
      let m : Message = new_message s q in
      let few : length (all s.sends) < 16 = omega (arith, length-take s.sends.len s.sends.items, g.room) in
      let low : lowest_free (all s.sends) < 16 = lowest_free_room (all s.sends) few in
      let own_place = lowest_free_free (all s.sends) low in
      let good : message_good s.n s.own m ≡ true =
      hold _ (
        lt-ltb _ 16 low,
        (
          ap not (ne_eqb q.priority 0 g.some_priority),
          (
            le-leb q.channel 7 g.channel_fits,
            (
              le-leb q.length 1492 g.length_fits,
              (
                lt-ltb q.to s.n g.member,
                (ap not (ne_eqb q.to s.own g.another), tt),
              ),
            ),
          ),
        ),
      ) in
      let all' = push_all s.sends m k.shaped.sends g.room in
      record {
        shaped =
            record { seats = k.shaped.seats; sends = push_length s.sends m k.shaped.sends g.room; receives = k.shaped.receives };
        ring = k.ring;
        seats = k.seats;
        company = k.company;
        sends = list_pushed s.sends m k.shaped.sends g.room s.n s.own k.sends good own_place;
        receives = k.receives;
        waiters = rw all' (waiters_pushed s.turn.state s.live _ (all s.sends) m g.lives k.waiters);
        retries = k.retries;
        awaited = awaited_pushed s.sends m k.shaped.sends g.room own_place s.turn.state s.n s.own s.turn.awaited k.awaited;
      }

  queue_sound : Sound s → Sound (queue_rule s q).station
  unfolding queue_rule
  queue_sound k = moved_sound s k _ _ (λ r. unless_sound s k _ _ (λ z. accepted_sound k z))

  pub queue_keeps_whole : WholeStation s → WholeStation (queue_rule s q).station
  queue_keeps_whole w = whole_station _ (queue_sound (whole_sound s w))
