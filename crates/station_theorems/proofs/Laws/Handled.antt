-- Laws of a frame that is handled: the station that stores it and sends one is whole. Assumes nothing.
use mathlib.Core.Path.{◌≡◌, refl, sym, ap, ◌∙◌}
use mathlib.Core.Bool.{Bool, true, false, not, false≢true}
use mathlib.Core.List.{List, [], ◌∷◌}
use Prim.Native.Nat.{ℕ, ◌<◌}
use native.Mathlib.Omega.{arith}
use lib.Dec.{eqb, ltb, leb}
use lib.ListN.{length, length-take}
use borrow.Author.Tests.{leb-false, lt-ltb, le-leb, ltb-false, ne_eqb, not-true, not-false}
use Rattle.codec.proofs.Laws.Order.{none_holds}
use Rattle.parts.specs.Choose.{pick}
use Rattle.parts.specs.Moves.{is_idle, is_waiting, is_excluded}
use Rattle.parts.specs.Messages.{all, pushed, has_place, lowest_free}
use Rattle.parts.specs.Frames.{fit}
use Rattle.station.specs.Strike.{Struck}
use Rattle.station.specs.Stations.{state_of, awaited_of, alone, add_up_to, with_lost, with_receives}
use Rattle.station.specs.Heard.{Stored, is_last, nothing_more, heard_message, receive, stored, handle}
use Rattle.wholeness.specs.Whole.{own_seat, company_good, message_good}
use Rattle.parts.specs.declared.moves.State.{State}
use Rattle.parts.specs.declared.moves.State.TheVariants.{Idle}
use Rattle.parts.specs.declared.list.Message.{Message}
use Rattle.parts.specs.declared.frame.InformationFrame.{InformationFrame}
use Rattle.parts.specs.declared.frame.Frame.{Frame}
use Rattle.parts.specs.declared.frame.Frame.TheVariants.{Token, Transmit, Information}
use Rattle.station.specs.declared.station.Station.{Station}
use Rattle.std.specs.Prelude.{None, Some}
use Rattle.station_theorems.proofs.Laws.Places.{lowest_free_free, lowest_free_room}
use Rattle.parts.proofs.Laws.Tests.{hold}
use Rattle.station_theorems.proofs.Laws.Kept.{list_pushed, push_length}
use Rattle.station_theorems.proofs.Laws.Seats.{Seats, seated}
use Rattle.station_theorems.proofs.Laws.Based.{ringed, Based, based_on, idle_flight, sends_off}
use Rattle.station_theorems.proofs.Laws.Sending.{passes, reply_proper}
use Rattle.station_theorems.proofs.Laws.Sound.{Sound}

-- ---- one that goes on is Idle, so it has company and is live

pub idle_on : (s : Station) (to k : ℕ) → nothing_more s to k ≡ false → is_idle (state_of s) ≡ true
unfolding nothing_more
idle_on s to k e =
    let ts : List (Bool × Bool) = (not (eqb to s.own), true) ∷ (is_last s.turn.handled k, true) ∷ (not (is_idle (state_of s)), true) ∷ [] in
    let other : ◌≡◌ {A = Bool} true false → ⊥ = λ q. false≢true (sym q) in
    not-false _ (none_holds false ts (other, (other, (other, tt))) e).1.1.0

pub idle_company : (st : State) (a : Bool) → st ≡ Idle → company_good st a ≡ true → a ≡ false
unfolding company_good
idle_company st a i e = not-true a (ap (λ (x : State). company_good x a) (sym i) ∙ e)

pub idle_based : (s : Station) → Sound s → state_of s ≡ Idle → Based None s
unfolding own_seat
idle_based s k i =
    let r = ringed s.n s.limit s.own k.ring in
    let t : Seats Idle s.n s.own s.live = rw i at (seated (state_of s) s.n s.own s.live k.shaped.seats r.most_members r.member k.seats) in
    based_on s k None (idle_flight (state_of s) s.n s.own s.sends (awaited_of s) (ap is_waiting i) k.awaited) (ap is_excluded i) t.itself

-- ---- a heard message is stored or lost, then a frame is sent

-- a station between two turns that is not alone
pub record Ready (s t : Station) : Type 0 where
  pub based : Based None t
  pub others : alone t ≡ false
  pub same_n : t.n ≡ s.n

module _ (s : Station) (b : Based None s) (a : alone s ≡ false) (from : ℕ) (low : from < s.n) (o : from ≡ s.own → ⊥) where
  stored_one : (m : Message) → s.receives.len < 16 → message_good s.n s.own m ≡ true → has_place (all s.receives) m.place ≡ false
      → Ready s (with_receives s (pushed s.receives m))
  stored_one m room good free =
      record {
        based =
            record {
              shaped = record { seats = b.shaped.seats; sends = b.shaped.sends; receives = push_length s.receives m b.shaped.receives room };
              ring = b.ring;
              members = b.members;
              itself = b.itself;
              sends = b.sends;
              receives = list_pushed s.receives m b.shaped.receives room s.n s.own b.receives good free;
              waits = b.waits;
              flown = b.flown;
              retries = b.retries;
            };
        others = a;
        same_n = refl;
      }

  lost_one : (k : ℕ) → Ready s (with_lost s k)
  lost_one k =
      record {
        based =
            record {
              shaped = record { seats = b.shaped.seats; sends = b.shaped.sends; receives = b.shaped.receives };
              ring = b.ring;
              members = b.members;
              itself = b.itself;
              sends = b.sends;
              receives = b.receives;
              waits = b.waits;
              flown = b.flown;
              retries = b.retries;
            };
        others = a;
        same_n = refl;
      }

  received : (i : InformationFrame) → eqb i.priority 0 ≡ false → ltb 7 i.channel ≡ false → leb i.length 1492 ≡ true
      → Ready s (receive s (heard_message s from i)).station
  unfolding receive pick message_good
  received i x y z = go (leb 16 s.receives.len) refl
    where
      m : Message
      m = heard_message s from i

      go : (t : Bool) → leb 16 s.receives.len ≡ t
          → Ready s
          (pick {A = Stored} t
          (record { station = with_lost s (add_up_to s.counts.lost 1); payload = None })
          (record { station = with_receives s (pushed s.receives m); payload = Some m })
          ).station
      go true t = lost_one _
      go false t =
          let room : s.receives.len < 16 = leb-false 16 s.receives.len t in
          let few : length (all s.receives) < 16 = omega (arith, length-take s.receives.len s.receives.items) in
          let place : lowest_free (all s.receives) < 16 = lowest_free_room (all s.receives) few in
          stored_one m room
          (hold _ (
            lt-ltb _ 16 place,
            (
              ap not x,
              (
                le-leb i.channel 7 (ltb-false 7 i.channel y),
                (
                  z,
                  (
                    lt-ltb from s.n low,
                    (ap not (ne_eqb from s.own o), tt),
                  ),
                ),
              ),
            ),
          ))
          (lowest_free_free (all s.receives) place)

  pub stored_ready : (f : Frame) → fit s.n f ≡ true → Ready s (stored s from f).station
  unfolding stored
  stored_ready (Token t) e = record { based = b; others = a; same_n = refl }
  stored_ready (Transmit t) e = record { based = b; others = a; same_n = refl }
  stored_ready (Information i) e =
      let t = passes e in
      let u = passes t.1 in
      received i t.0 u.0 u.1

pub handle_sound : (s : Station) (k : Struck) (t : Stored) (f : Frame) → Ready s t.station → fit s.n f ≡ true → Sound (handle k t f).station
unfolding handle
handle_sound s k t f h e =
    let r = ringed t.station.n t.station.limit t.station.own h.based.ring in
    sends_off t.station h.based _ _ h.others (reply_proper t.station r.member h.based.sends h.others f (rw h.same_n e))
