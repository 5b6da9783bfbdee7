-- Laws of striking and giving up: what they leave of a station between two turns. Assumes nothing.
use mathlib.Core.Path.{◌≡◌, refl, sym, ap, ◌∙◌}
use mathlib.Core.Bool.{Bool, true, false, not, false≢true, ◌||◌, ◌&&◌}
use mathlib.Core.List.{List}
use Prim.Native.Nat.{ℕ}
use native.Mathlib.Omega.{arith}
use lib.Dec.{eqb}
use lib.ListN.{length}
use borrow.Author.Tests.{eqb-false, eq-eqb, ne_eqb, not-true}
use Rattle.parts.specs.Choose.{pick, every}
use Rattle.parts.specs.Moves.{move_of, runs, is_excluded}
use Rattle.parts.specs.Messages.{all, flies, fits, only, pack, split_by, best, best_of}
use Rattle.parts.specs.Live.{live_at, without}
use Rattle.parts.specs.Frames.{flight, Dispatch}
use Rattle.station.specs.Stations.{state_of, awaited_of, alone, counted}
use Rattle.station.specs.Strike.{Loss, strike, give_up_to, leave, give_up_at, give_up_flight}
use Rattle.wholeness.specs.Whole.{own_seat, other_seat, company_good, list_good, waits_well, waiters_good, same_message, carried, awaited_good}
use Rattle.parts.specs.declared.moves.State.{State}
use Rattle.parts.specs.declared.moves.Event.TheVariants.{Heard}
use Rattle.parts.specs.declared.live.Live.{Live}
use Rattle.parts.specs.declared.list.Message.{Message}
use Rattle.parts.specs.declared.list.Messages.{Messages}
use Rattle.parts.specs.declared.list.Which.TheVariants.{WaitingFor, HasPlace}
use Rattle.parts.specs.declared.frame.Frame.TheVariants.{Token, Transmit, Information}
use Rattle.std.specs.Prelude.{Option, None, Some, is_some}
use Rattle.std.proofs.lemmas.Option.{none-some}
use Rattle.station.specs.declared.station.Station.{Station}
use Rattle.parts.proofs.Laws.Choose.{pick_true, pick_false, map_or_either}
use Rattle.parts.proofs.Laws.Messages.{only_length}
use Rattle.station_theorems.proofs.Laws.States.{heard_cases}
use Rattle.parts.proofs.Laws.Tests.{held, hold}
use Rattle.station_theorems.proofs.Laws.Kept.{each_taken, list_only, list_length, pack_all, pack_length}
use Rattle.station_theorems.proofs.Laws.Carried.{best_only}
use Rattle.station_theorems.proofs.Laws.Seats.{seating, struck_other, struck_length, struck_fewer}
use Rattle.station_theorems.proofs.Laws.Based.{ringed, Based}
use Rattle.station_theorems.proofs.Laws.Sound.{Sound}

-- ---- a list of which a part is kept

module _ (n own : ℕ) (l : Messages) (good : list_good n own l ≡ true) (g : Message → Bool) where
  pub kept_length : length (pack (only g (all l))).items ≡ 16
  kept_length = pack_length (only g (all l)) (omega (arith, only_length g (all l), list_length n own l good))

-- the message in flight is kept
module _ (l : Messages) (g : Message → Bool) where
  pub best_kept : (p : ℕ) → ((m : Message) → m.place ≡ p → g m ≡ true) → best (HasPlace p) (pack (only g (all l))) ≡ best (HasPlace p) l
  unfolding best
  best_kept p w = ap (λ (ms : List Message). best_of (HasPlace p) ms None) (pack_all (only g (all l))) ∙ best_only p g w (all l) None

  pub awaited_kept : (st : State) (n own : ℕ) (d : Dispatch) → ((m : Message) → flies (flight d) m ≡ true → g m ≡ true)
      → awaited_good st n own l d ≡ true → awaited_good st n own (pack (only g (all l))) d ≡ true
  unfolding awaited_good carried
  awaited_kept st n own None w e = e
  awaited_kept st n own (Some (Token t, to)) w e = e
  awaited_kept st n own (Some (Transmit t, to)) w e = e
  awaited_kept st n own (Some (Information i, to)) w e =
      let t = held _ e in
      hold _ (
        t.0,
        (
          t.1.0,
          (
            t.1.1.0,
            (
              t.1.1.1.0,
              (ap (λ (b : Option Message). same_message b to i) (best_kept i.place (λ m q. w m (eq-eqb i.place m.place (sym q)))) ∙ t.1.1.1.1.0, tt),
            ),
          ),
        ),
      )

-- ---- waiting messages

abbrev pub staying : Option ℕ → ℕ → Message → Bool
staying f p m = not (fits (WaitingFor f p) m)

abbrev pub elsewhere : ℕ → Message → Bool
elsewhere p m = not (fits (HasPlace p) m)

pub flies_stays : (f : Option ℕ) (p : ℕ) (m : Message) → flies f m ≡ true → staying f p m ≡ true
unfolding fits
flies_stays f p m e = ap (λ (t : Bool). not (not t && eqb m.other p)) e

struck_waits : (l : Live) (f : Option ℕ) (p : ℕ) (m : Message) → waits_well l f m ≡ true → staying f p m ≡ true → waits_well (without l p) f m ≡ true
unfolding waits_well fits
struck_waits l f p m = go (flies f m)
  where
    go : (t : Bool) → (t || live_at l m.other) ≡ true → not (not t && eqb m.other p) ≡ true → (t || live_at (without l p) m.other) ≡ true
    go true e q = refl
    go false e q = struck_other l p m.other (eqb-false m.other p (not-true _ q)) ∙ e

left_waits : (l : Live) (p : ℕ) (m : Message) → waits_well l (Some p) m ≡ true → elsewhere p m ≡ true → waits_well l None m ≡ true
unfolding waits_well fits
left_waits l p m e q =
    let off : eqb p m.place ≡ false = ne_eqb _ _ (λ r. eqb-false m.place p (not-true _ q) (sym r)) in
    ap (λ (t : Bool). t || live_at l m.other) (sym off) ∙ e

-- ---- a station between two turns

module _ (s : Station) (f : Option ℕ) (b : Based f s) where
  -- another is struck, and waiting messages to it leave
  pub struck_based : (p : ℕ) → (p ≡ s.own → ⊥) → f ≡ flight (awaited_of s) → Based f (give_up_to (strike s p) p).station
  unfolding give_up_to split_by
  struck_based p o e =
      let g : Message → Bool = staying (flight (awaited_of s)) p in
      record {
        shaped =
            record {
              seats = struck_length s.live p ∙ b.shaped.seats;
              sends = kept_length s.n s.own s.sends b.sends g;
              receives = b.shaped.receives;
            };
        ring = b.ring;
        members = λ q on. b.members q (struck_fewer s.live p b.shaped.seats q on);
        itself = struck_other s.live p s.own (λ q. o (sym q)) ∙ b.itself;
        sends = list_only s.n s.own g s.sends b.sends;
        receives = b.receives;
        waits =
            ap (every (waits_well (without s.live p) f)) (pack_all (only g (all s.sends)))
            ∙ each_taken (waits_well s.live f) g (waits_well (without s.live p) f)
            (λ m w t. struck_waits s.live f p m w (ap (λ (h : Option ℕ). staying h p m) e ∙ t)) (all s.sends) b.waits;
        flown = λ r on.
            ap (λ (x : Option Message). is_some x)
            (best_kept s.sends g r
            (λ m q. flies_stays (flight (awaited_of s)) p m (ap (λ (h : Option ℕ). flies h m) (sym e ∙ on) ∙ eq-eqb _ _ (sym q))))
            ∙ b.flown r on;
        retries = b.retries;
      }

  -- the message in flight leaves
  pub left_based : (p : ℕ) → f ≡ Some p → Based None (leave s p)
  unfolding split_by
  left_based p on =
      let g : Message → Bool = elsewhere p in
      record {
        shaped = record { seats = b.shaped.seats; sends = kept_length s.n s.own s.sends b.sends g; receives = b.shaped.receives };
        ring = b.ring;
        members = b.members;
        itself = b.itself;
        sends = list_only s.n s.own g s.sends b.sends;
        receives = b.receives;
        waits =
            ap (every (waits_well s.live None)) (pack_all (only g (all s.sends)))
            ∙ each_taken (waits_well s.live f) g (waits_well s.live None) (λ m w t. left_waits s.live p m (ap (λ (h : Option ℕ). waits_well s.live h m) (sym on) ∙ w) t) (all s.sends) b.waits;
        flown = λ p x. absurd (none-some _ x);
        retries = b.retries;
      }

  -- or none is in flight
  pub still_based : f ≡ None → Based None s
  still_based off =
      record {
        shaped = b.shaped;
        ring = b.ring;
        members = b.members;
        itself = b.itself;
        sends = b.sends;
        receives = b.receives;
        waits = ap (λ (h : Option ℕ). every (waits_well s.live h) (all s.sends)) (sym off) ∙ b.waits;
        flown = λ p x. absurd (none-some _ x);
        retries = b.retries;
      }

  -- more are counted as given up
  pub counted_based : (k : ℕ) → Based f (counted s k)
  counted_based k =
      record {
        shaped = record { seats = b.shaped.seats; sends = b.shaped.sends; receives = b.shaped.receives };
        ring = b.ring;
        members = b.members;
        itself = b.itself;
        sends = b.sends;
        receives = b.receives;
        waits = b.waits;
        flown = b.flown;
        retries = b.retries;
      }

pub counted_sound : (s : Station) (k : ℕ) → Sound s → Sound (counted s k)
counted_sound s k h =
    record {
      shaped = record { seats = h.shaped.seats; sends = h.shaped.sends; receives = h.shaped.receives };
      ring = h.ring;
      seats = h.seats;
      company = h.company;
      sends = h.sends;
      receives = h.receives;
      waiters = h.waiters;
      retries = h.retries;
      awaited = h.awaited;
    }

-- ---- any message in flight is given up: the two ways

pub flight_cases : (P : Loss → Type 0) (l : Loss) (f : Option ℕ) → f ≡ flight (awaited_of l.station)
    → ((r : ℕ) → f ≡ Some r → is_some (best (HasPlace r) l.station.sends) ≡ true)
    → (f ≡ None → P l)
    → ((r : ℕ) → f ≡ Some r → (g : Messages) → P (record { station = leave l.station r; gone = g }))
    → P (give_up_flight l)
unfolding give_up_flight give_up_at
flight_cases P l f e w p q = rw (sym e) (map_or_either P (give_up_at l) f l go p)
  where
    go : (r : ℕ) → f ≡ Some r → P (give_up_at l r)
    go r on = map_or_either P _ (best (HasPlace r) l.station.sends) l (λ m i. q r on _) (λ i. absurd (false≢true (ap (λ (x : Option Message). is_some x) (sym i) ∙ w r on)))

-- ---- a turn that stays: Idle or Waiting

heard_own : (st : State) → move_of st Heard ≡ runs → own_seat st true ≡ true
unfolding own_seat
heard_own st m = heard_cases (λ (x : State). own_seat x true ≡ true) refl refl st m

heard_others : (st : State) → move_of st Heard ≡ runs → (on : Bool) → other_seat st on ≡ true
unfolding other_seat
heard_others st m on = heard_cases (λ (x : State). other_seat x on ≡ true) refl refl st m

heard_company : (st : State) (a : Bool) → move_of st Heard ≡ runs → a ≡ false → company_good st a ≡ true
unfolding company_good
heard_company st a m e = heard_cases (λ (x : State). company_good x a ≡ true) (ap not e) (ap not e) st m

pub waiters_all : (st : State) (l : Live) (f : Option ℕ) (ms : List Message) → every (waits_well l f) ms ≡ true → waiters_good st l f ms ≡ true
unfolding waiters_good
waiters_all st l f ms e = go (is_excluded st)
  where
    go : (t : Bool) → pick t true (every (waits_well l f) ms) ≡ true
    go true = pick_true _ _ refl
    go false = pick_false _ _ refl ∙ e

pub stays_sound : (s : Station) → move_of (state_of s) Heard ≡ runs → Based (flight (awaited_of s)) s → alone s ≡ false
    → awaited_good (state_of s) s.n s.own s.sends (awaited_of s) ≡ true → Sound s
stays_sound s m b a e =
    let r = ringed s.n s.limit s.own b.ring in
    record {
      shaped = b.shaped;
      ring = b.ring;
      seats =
          seating (state_of s) s.n s.own s.live b.shaped.seats r.most_members r.member
          (record { members = b.members; itself = ap (own_seat (state_of s)) b.itself ∙ heard_own (state_of s) m; others = λ p h o. heard_others (state_of s) m _ });
      company = heard_company (state_of s) (alone s) m a;
      sends = b.sends;
      receives = b.receives;
      waiters = waiters_all (state_of s) s.live (flight (awaited_of s)) (all s.sends) b.waits;
      retries = b.retries;
      awaited = e;
    }
