-- A station between two turns: what holds of it whatever its turn is, and which turns make it whole. Assumes nothing.
use mathlib.Core.Path.{◌≡◌, refl, sym, ap, ◌∙◌}
use mathlib.Core.Bool.{Bool, true, false, not, false≢true, ◌||◌}
use mathlib.Core.List.{List}
use Prim.Native.Nat.{ℕ, ◌<◌}
use native.Mathlib.Omega.{arith}
use borrow.Author.Tests.{leb-true, le-leb, ltb-true, lt-ltb, eqb-true}
use Rattle.parts.specs.Choose.{every}
use Rattle.parts.specs.Moves.{move_of, runs, is_waiting, is_excluded}
use Rattle.parts.specs.Messages.{all, flies, best}
use Rattle.parts.specs.Live.{live_at}
use Rattle.parts.specs.Frames.{flight, Dispatch}
use Rattle.station.specs.Stations.{state_of, awaited_of, alone, quiet, sending_turn, sending}
use Rattle.wholeness.specs.Whole.{ring_good, own_seat, other_seat, company_good, list_good, waits_well, waiters_good, same_message, carried, awaited_good, turn_fits}
use Rattle.parts.specs.declared.moves.State.{State}
use Rattle.parts.specs.declared.moves.State.TheVariants.{Idle, Waiting, Alone}
use Rattle.parts.specs.declared.moves.Event.TheVariants.{Heard}
use Rattle.parts.specs.declared.live.Live.{Live}
use Rattle.parts.specs.declared.list.Message.{Message}
use Rattle.parts.specs.declared.list.Messages.{Messages}
use Rattle.parts.specs.declared.list.Which.TheVariants.{HasPlace}
use Rattle.parts.specs.declared.frame.InformationFrame.{InformationFrame}
use Rattle.parts.specs.declared.frame.Frame.TheVariants.{Token, Transmit, Information}
use Rattle.std.specs.Prelude.{Option, None, Some, is_some}
use Rattle.std.proofs.lemmas.Option.{none-some, same_Some}
use Rattle.station.specs.declared.station.Station.{Station}
use Rattle.parts.proofs.Laws.Choose.{pick_false}
use Rattle.station_theorems.specs.Whole.{Ring}
use Rattle.station_theorems.specs.Shaped.{Shaped}
use Rattle.station_theorems.proofs.Laws.States.{heard_cases}
use Rattle.parts.proofs.Laws.Tests.{held, hold, each_weaker}
use Rattle.station_theorems.proofs.Laws.Seats.{Seats, seated, seating}
use Rattle.station_theorems.proofs.Theorems.Successor.{successor_is}
use Rattle.station_theorems.proofs.Laws.Sound.{Sound, turn_fits_lem}

-- ---- the ring

pub ringed : (n limit own : ℕ) → ring_good n limit own ≡ true → Ring n limit own
unfolding ring_good
ringed n limit own e =
    let t = held _ e in
    record {
      some_members = leb-true 2 n t.0;
      most_members = leb-true n 64 t.1.0;
      some_retry = leb-true 1 limit t.1.1.0;
      most_retries = leb-true limit 15 t.1.1.1.0;
      member = ltb-true own n t.1.1.1.1.0;
    }

pub ring_good_lem : (n limit own : ℕ) → Ring n limit own → ring_good n limit own ≡ true
unfolding ring_good
ring_good_lem n limit own r =
    hold _ (
      le-leb 2 n r.some_members,
      (
        le-leb n 64 r.most_members,
        (
          le-leb 1 limit r.some_retry,
          (
            le-leb limit 15 r.most_retries,
            (lt-ltb own n r.member, tt),
          ),
        ),
      ),
    )

-- ---- between two turns: this station is live, waiting messages go to live stations, and a message in flight is there

pub record Based (f : Option ℕ) (s : Station) : Type 0 where
  pub shaped : Shaped s
  pub ring : ring_good s.n s.limit s.own ≡ true
  pub members : (p : ℕ) → live_at s.live p ≡ true → p < s.n
  pub itself : live_at s.live s.own ≡ true
  pub sends : list_good s.n s.own s.sends ≡ true
  pub receives : list_good s.n s.own s.receives ≡ true
  pub waits : every (waits_well s.live f) (all s.sends) ≡ true
  pub flown : (p : ℕ) → f ≡ Some p → is_some (best (HasPlace p) s.sends) ≡ true
  pub retries : turn_fits s.turn s.limit ≡ true

-- the message of an awaited information frame is there
pub same_message_there : (b : Option Message) (to : ℕ) (i : InformationFrame) → same_message b to i ≡ true → is_some b ≡ true
unfolding same_message
same_message_there None to i e = e
same_message_there (Some m) to i e = refl

pub in_flight_lem : (st : State) (n own : ℕ) (l : Messages) (d : Dispatch) → awaited_good st n own l d ≡ true → (p : ℕ) → flight d ≡ Some p
    → is_some (best (HasPlace p) l) ≡ true
unfolding awaited_good carried
in_flight_lem st n own l None e p on = absurd (none-some _ on)
in_flight_lem st n own l (Some (Token t, to)) e p on = absurd (none-some _ on)
in_flight_lem st n own l (Some (Transmit t, to)) e p on = absurd (none-some _ on)
in_flight_lem st n own l (Some (Information i, to)) e p on =
    ap (λ (q : ℕ). is_some (best (HasPlace q) l)) (sym (same_Some _ _ on)) ∙ same_message_there _ to i (held _ e).1.1.1.1.0

-- no frame is awaited but when Waiting
pub idle_flight : (st : State) (n own : ℕ) (l : Messages) (d : Dispatch) → is_waiting st ≡ false → awaited_good st n own l d ≡ true → flight d ≡ None
unfolding awaited_good
idle_flight st n own l None w e = refl
idle_flight st n own l (Some (f, to)) w e = absurd (false≢true (sym w ∙ (held _ e).0))

each_waits : (st : State) (l : Live) (f : Option ℕ) (ms : List Message) → is_excluded st ≡ false → waiters_good st l f ms ≡ true → every (waits_well l f) ms ≡ true
unfolding waiters_good
each_waits st l f ms x e = sym (pick_false _ _ x) ∙ e

-- a whole station that is live
pub based_on : (s : Station) → Sound s → (f : Option ℕ) → flight (awaited_of s) ≡ f → is_excluded (state_of s) ≡ false → live_at s.live s.own ≡ true → Based f s
based_on s k f e x o =
    let r = ringed s.n s.limit s.own k.ring in
    let t = seated (state_of s) s.n s.own s.live k.shaped.seats r.most_members r.member k.seats in
    record {
      shaped = k.shaped;
      ring = k.ring;
      members = t.members;
      itself = o;
      sends = k.sends;
      receives = k.receives;
      waits = ap (λ (g : Option ℕ). every (waits_well s.live g) (all s.sends)) (sym e) ∙ each_waits (state_of s) s.live _ (all s.sends) x k.waiters;
      flown = λ p on. in_flight_lem (state_of s) s.n s.own s.sends (awaited_of s) k.awaited p (e ∙ on);
      retries = k.retries;
    }

-- one that hears frames is live
pub not_excluded : (st : State) → move_of st Heard ≡ runs → is_excluded st ≡ false
not_excluded st m = heard_cases (λ (x : State). is_excluded x ≡ false) refl refl st m

own_on : (st : State) (on : Bool) → move_of st Heard ≡ runs → own_seat st on ≡ true → on ≡ true
unfolding own_seat
own_on st on m = heard_cases (λ (x : State). own_seat x on ≡ true → on ≡ true) (λ e. e) (λ e. e) st m

pub sound_based : (s : Station) → move_of (state_of s) Heard ≡ runs → Sound s → Based (flight (awaited_of s)) s
sound_based s m k =
    let r = ringed s.n s.limit s.own k.ring in
    let t = seated (state_of s) s.n s.own s.live k.shaped.seats r.most_members r.member k.seats in
    based_on s k (flight (awaited_of s)) refl (not_excluded (state_of s) m) (own_on (state_of s) _ m t.itself)

-- ---- the turns that make it whole

module _ (s : Station) (b : Based None s) where
  ring' : Ring s.n s.limit s.own
  ring' = ringed s.n s.limit s.own b.ring

  shut : (st : State) → own_seat st true ≡ true → ((p : ℕ) → p < s.n → (p ≡ s.own → ⊥) → other_seat st (live_at s.live p) ≡ true)
      → Seats st s.n s.own s.live
  shut st o w = record { members = b.members; itself = ap (own_seat st) b.itself ∙ o; others = w }

  pub quiet_idle : alone s ≡ false → Sound (quiet s Idle)
  unfolding own_seat other_seat company_good waiters_good awaited_good
  quiet_idle a =
      record {
        shaped = record { seats = b.shaped.seats; sends = b.shaped.sends; receives = b.shaped.receives };
        ring = b.ring;
        seats = seating Idle s.n s.own s.live b.shaped.seats ring'.most_members ring'.member (shut Idle refl (λ p h o. refl));
        company = ap not a;
        sends = b.sends;
        receives = b.receives;
        waiters = pick_false _ _ refl ∙ b.waits;
        retries = b.retries;
        awaited = refl;
      }

  pub quiet_alone : alone s ≡ true → Sound (quiet s Alone)
  unfolding own_seat other_seat company_good waiters_good awaited_good
  quiet_alone a =
      record {
        shaped = record { seats = b.shaped.seats; sends = b.shaped.sends; receives = b.shaped.receives };
        ring = b.ring;
        seats =
            seating Alone s.n s.own s.live b.shaped.seats ring'.most_members ring'.member
            (shut Alone refl (λ p h o. ap not ((successor_is s.n s.own ring'.member s.live).no_other (eqb-true _ _ a) p h o)));
        company = refl;
        sends = b.sends;
        receives = b.receives;
        waiters = pick_false _ _ refl ∙ b.waits;
        retries = b.retries;
        awaited = refl;
      }

  -- a waiting message stays one, or is in flight
  flies_too : (l : Live) (f : Option ℕ) (m : Message) → waits_well l None m ≡ true → waits_well l f m ≡ true
  unfolding waits_well
  flies_too l f m e = go (flies f m)
    where
      go : (t : Bool) → (t || live_at l m.other) ≡ true
      go true = refl
      go false = e

  pub sends_off : (h : Option ℕ) (d : Dispatch) → alone s ≡ false → awaited_good Waiting s.n s.own s.sends d ≡ true → Sound (sending s h d)
  unfolding own_seat other_seat company_good waiters_good
  sends_off h d a g =
      record {
        shaped = record { seats = b.shaped.seats; sends = b.shaped.sends; receives = b.shaped.receives };
        ring = b.ring;
        seats = seating Waiting s.n s.own s.live b.shaped.seats ring'.most_members ring'.member (shut Waiting refl (λ p k o. refl));
        company = ap not a;
        sends = b.sends;
        receives = b.receives;
        waiters =
            pick_false _ _ refl
            ∙ each_weaker (waits_well s.live None) (waits_well s.live (flight d)) (λ m e. flies_too s.live (flight d) m e) (all s.sends) b.waits;
        retries = turn_fits_lem (sending_turn h d) s.limit (omega arith);
        awaited = g;
      }
