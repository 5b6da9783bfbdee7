-- "The live set holds members only: this station and at least one other when Idle or Waiting, this station only when Alone, all when
-- Offline, not this station when Excluded": what whole's two tests of the live set say. Assumes nothing.
use mathlib.Core.Path.{◌≡◌, refl, sym, ap, ◌∙◌}
use mathlib.Core.Bool.{Bool, true, false, not, false≢true}
use Prim.Native.Nat.{ℕ, ◌<◌, ◌≤◌}
use lib.Dec.{eqb}
use lib.ListN.{length}
use borrow.Author.Tests.{eqb-true, eqb-false, ne_eqb, not-true}
use Rattle.parts.specs.Live.{live_at, successor}
use Rattle.wholeness.specs.Whole.{own_seat, other_seat, seats_good, company_good}
use Rattle.parts.specs.declared.moves.State.{State}
use Rattle.parts.specs.declared.moves.State.TheVariants.{Offline, Idle, Waiting, Alone, Excluded}
use Rattle.parts.specs.declared.live.Live.{Live}
use Rattle.station_theorems.specs.LiveSet.{Company, LiveSet}
use Rattle.station_theorems.proofs.Laws.Seats.{Seats, seated, seating}
use Rattle.station_theorems.proofs.Theorems.Successor.{successor_is}

module _ (st : State) (n own : ℕ) (l : Live) (long : length l.on ≡ 64) (most : n ≤ 64) (inside : own < n) where
  -- where own has a successor, it has company
  has_company : live_at l own ≡ true → eqb (successor l n own) own ≡ false → Company n own l
  has_company on e =
      let k = (successor_is n own inside l).next (eqb-false _ _ e) in
      record { itself = on; another = successor l n own; member = k.member; not_itself = k.another; lives = k.live }

  pub live_set : seats_good st n own 0 l.on ≡ true → company_good st (eqb (successor l n own) own) ≡ true → LiveSet st n own l
  unfolding own_seat other_seat company_good
  live_set e c =
      record {
        members_only = seats.members;
        all_when_offline = λ q p h. whichever q p h (eqb p own) refl;
        company_when_idle = λ q. has_company (itself q) (not-true _ (company q));
        company_when_waiting = λ q. has_company (itself q) (not-true _ (company q));
        itself_when_alone = λ q. itself q;
        no_other_when_alone = λ q p o. other q p o (live_at l p) refl;
        not_itself_when_excluded = λ q. not-true _ (itself q);
      }
    where
      seats : Seats st n own l
      seats = seated st n own l long most inside e

      itself : {w : State} → st ≡ w → own_seat w (live_at l own) ≡ true
      itself q = ap (λ (x : State). own_seat x (live_at l own)) (sym q) ∙ seats.itself

      company : {w : State} → st ≡ w → company_good w (eqb (successor l n own) own) ≡ true
      company q = ap (λ (x : State). company_good x (eqb (successor l n own) own)) (sym q) ∙ c

      others : {w : State} → st ≡ w → (p : ℕ) → p < n → (p ≡ own → ⊥) → other_seat w (live_at l p) ≡ true
      others q p h o = ap (λ (x : State). other_seat x (live_at l p)) (sym q) ∙ seats.others p h o

      whichever : st ≡ Offline → (p : ℕ) → p < n → (b : Bool) → eqb p own ≡ b → live_at l p ≡ true
      whichever q p h true t = ap (live_at l) (eqb-true p own t) ∙ itself q
      whichever q p h false t = others q p h (eqb-false p own t)

      other : st ≡ Alone → (p : ℕ) → (p ≡ own → ⊥) → (b : Bool) → live_at l p ≡ b → live_at l p ≡ false
      other q p o true t = not-true _ (others q p (seats.members p t) o)
      other q p o false t = t

module _ (n own : ℕ) (l : Live) (long : length l.on ≡ 64) (most : n ≤ 64) (inside : own < n) where
  own_seat_lem : (st : State) → LiveSet st n own l → own_seat st (live_at l own) ≡ true
  unfolding own_seat
  own_seat_lem Offline k = k.all_when_offline refl own inside
  own_seat_lem Idle k = (k.company_when_idle refl).itself
  own_seat_lem Waiting k = (k.company_when_waiting refl).itself
  own_seat_lem Alone k = k.itself_when_alone refl
  own_seat_lem Excluded k = ap not (k.not_itself_when_excluded refl)

  other_seat_lem : (st : State) → LiveSet st n own l → (p : ℕ) → p < n → (p ≡ own → ⊥) → other_seat st (live_at l p) ≡ true
  unfolding other_seat
  other_seat_lem Offline k p h o = k.all_when_offline refl p h
  other_seat_lem Idle k p h o = refl
  other_seat_lem Waiting k p h o = refl
  other_seat_lem Alone k p h o = ap not (k.no_other_when_alone refl p o)
  other_seat_lem Excluded k p h o = refl

  pub seats_live : (st : State) → LiveSet st n own l → seats_good st n own 0 l.on ≡ true
  seats_live st k = seating st n own l long most inside (record { members = k.members_only; itself = own_seat_lem st k; others = other_seat_lem st k })

  company_live : Company n own l → not (eqb (successor l n own) own) ≡ true
  company_live k =
      ap not (ne_eqb _ _ (λ e. false≢true (sym ((successor_is n own inside l).no_other e k.another k.member k.not_itself) ∙ k.lives)))

  pub company_good_lem : (st : State) → LiveSet st n own l → company_good st (eqb (successor l n own) own) ≡ true
  unfolding company_good
  company_good_lem Offline k = refl
  company_good_lem Idle k = company_live (k.company_when_idle refl)
  company_good_lem Waiting k = company_live (k.company_when_waiting refl)
  company_good_lem Alone k = refl
  company_good_lem Excluded k = refl
