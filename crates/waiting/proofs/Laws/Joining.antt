-- A queue call only adds to a station's list: a message that waits waits on, and an accepted message waits from its acceptance on. Assumes
-- nothing.
use mathlib.Core.Path.{◌≡◌, refl, sym, ap, subst, ◌∙◌}
use mathlib.Core.Bool.{Bool, true, false, false≢true}
use mathlib.Core.List.Memᴰ
use mathlib.Core.List.{[], ◌∷◌, ◌++◌, Memᴰ}
use native.Mathlib.Omega.{arith}
use lib.Dec.{eqb}
use lib.ListN.{length-take}
use borrow.Author.Tests.{eqb-true, eqb-false, eq-eqb}
use Rattle.parts.specs.Choose.{pick}
use Rattle.parts.specs.Frames.{flight}
use Rattle.parts.specs.Live.{live_at}
use Rattle.parts.specs.Messages.{all, flies, has_place, lowest_free, pushed, best}
use Rattle.parts.specs.Moves.{move_of, runs}
use Rattle.station.specs.Stations.{state_of, awaited_of, answered, moved, unless}
use Rattle.station.specs.Queue.{new_message, accepted, queue_number, queue_rule}
use Rattle.parts.specs.declared.moves.Event.TheVariants.{Queue}
use Rattle.std.specs.Prelude.{Option, ℕ, None, Some}
use Rattle.parts.specs.declared.list.Message.{Message}
use Rattle.parts.specs.declared.request.Request.{Request}
use Rattle.station.specs.declared.station.Station.{Station}
use Rattle.parts.proofs.Laws.Queue.{queue_good}
use Rattle.station_theorems.specs.Shaped.{WholeStation}
use Rattle.station_theorems.proofs.Laws.Based.{in_flight_lem}
use Rattle.station_theorems.proofs.Laws.Carried.{best_somewhere}
use Rattle.station_theorems.proofs.Laws.Kept.{push_all}
use Rattle.station_theorems.proofs.Laws.Places.{free_place}
use Rattle.station_theorems.proofs.Laws.Sound.{whole_sound}
use Rattle.waiting.proofs.Laws.Staying.{WaitsAt}

module _ (s : Station) (whole : WholeStation s) (q : Request) where
  abbrev new : Message
  new = new_message s q

  joined : queue_number s q ≡ 0 → all (pushed s.sends new) ≡ all s.sends ++ new ∷ []
  joined z =
      let g = queue_good s.n s.own (live_at s.live q.to) s.sends.len q z in
      push_all s.sends new whole.shaped.sends g.room

  -- those that wait stay
  pub old_waits : (m : Message) → WaitsAt s m → WaitsAt (queue_rule s q).station m
  unfolding queue_rule moved unless accepted pick
  old_waits m w = go (eqb (move_of (state_of s) Queue) runs) (eqb (queue_number s q) 0) refl
    where
      go : (a b : Bool) → eqb (queue_number s q) 0 ≡ b
          → WaitsAt
          (pick a
          (pick b (accepted s q) (answered s (queue_number s q)))
          (answered s (move_of (state_of s) Queue))
          ).station
          m
      go false b e = w
      go true false e = w
      go true true e = record { listed = subst (Memᴰ m) (sym (joined (eqb-true _ _ e))) (Memᴰ.append_left (new ∷ []) w.listed); rests = w.rests }

  -- the new one's place is free, so it is not the place of the one in flight
  not_flying : queue_number s q ≡ 0 → flies (flight (awaited_of s)) new ≡ false
  unfolding best
  not_flying z = go (flight (awaited_of s)) refl
    where
      free : has_place (all s.sends) (lowest_free (all s.sends)) ≡ false
      free =
          let g = queue_good s.n s.own (live_at s.live q.to) s.sends.len q z in
          (free_place (all s.sends) (omega (arith, length-take s.sends.len s.sends.items, g.room))).1

      apart : (p : ℕ) → flight (awaited_of s) ≡ Some p → (b : Bool) → eqb p new.place ≡ b → eqb p new.place ≡ false
      apart p x false y = y
      apart p x true y =
          let had : has_place (all s.sends) p ≡ true =
          best_somewhere p (all s.sends) (in_flight_lem (state_of s) s.n s.own s.sends (awaited_of s) (whole_sound s whole).awaited p x) in
          absurd (false≢true (sym free ∙ ap (has_place (all s.sends)) (sym (eqb-true p new.place y)) ∙ had))

      go : (f : Option ℕ) → flight (awaited_of s) ≡ f → flies f new ≡ false
      go None x = refl
      go (Some p) x = apart p x (eqb p new.place) refl

  pub new_waits : move_of (state_of s) Queue ≡ runs → (queue_rule s q).number ≡ 0 → WaitsAt (queue_rule s q).station new
  unfolding queue_rule moved unless accepted pick
  new_waits r = go (eqb (move_of (state_of s) Queue) runs) refl (eqb (queue_number s q) 0) refl
    where
      go : (a : Bool) → eqb (move_of (state_of s) Queue) runs ≡ a → (b : Bool) → eqb (queue_number s q) 0 ≡ b
          → (pick a
          (pick b (accepted s q) (answered s (queue_number s q)))
          (answered s (move_of (state_of s) Queue))
          ).number ≡ 0
          → WaitsAt
          (pick a
          (pick b (accepted s q) (answered s (queue_number s q)))
          (answered s (move_of (state_of s) Queue))
          ).station
          new
      go false x b y z = absurd (false≢true (sym x ∙ eq-eqb (move_of (state_of s) Queue) runs r))
      go true x false y z = absurd (eqb-false _ _ y z)
      go true x true y z =
          record {
            listed = subst (Memᴰ new) (sym (joined (eqb-true _ _ y))) (Memᴰ.append_right (all s.sends) (Memᴰ.head refl));
            rests = not_flying (eqb-true _ _ y);
          }
