-- Laws of the seats of a ring: who is live, state by state. Assumes nothing.
use mathlib.Core.Path.{◌≡◌, refl, sym, ap, ◌∙◌}
use mathlib.Core.Bool.{Bool, true, false, not, false≢true}
use mathlib.Core.List.{List, [], ◌∷◌}
use Prim.Native.Nat.{ℕ, zero, suc, ◌+◌, ◌<◌, ◌≤◌}
use native.Mathlib.Nat.{add-zero, zero-add}
use native.Mathlib.Omega.{arith}
use lib.Dec.{ltb, leb, eqb}
use lib.ListN.{length, get_or, length-set, get_or-eq_default}
use lib.Seq.{get_or-set_same, get_or-set_other, set_out}
use borrow.Author.Tests.{ltb-true, ltb-false, lt-leb, leb-true, leb-false, eq-eqb, ne_eqb, eqb-true, eqb-false, not-true}
use Rattle.parts.specs.Live.{live_at, without}
use Rattle.wholeness.specs.Whole.{own_seat, other_seat, seat_good, seats_good}
use Rattle.parts.specs.declared.moves.State.{State}
use Rattle.parts.specs.declared.live.Live.{Live}
use Rattle.parts.proofs.Laws.Choose.{pick_true, pick_false, pick_and}
use Rattle.parts.proofs.Laws.Tests.{both}

-- ---- seat by seat

module _ (st : State) (n own : ℕ) where
  pub seat_of : (ons : List Bool) (p i : ℕ) → i < length ons → seats_good st n own p ons ≡ true → seat_good st n own (p + i) (get_or ons i false) ≡ true
  unfolding seats_good
  seat_of [] p i h e = absurd (omega arith)
  seat_of (on ∷ ons) p zero h e = ap (λ (q : ℕ). seat_good st n own q on) (add-zero p) ∙ (pick_and e).0
  seat_of (on ∷ ons) p (suc i) h e =
      ap (λ (q : ℕ). seat_good st n own q (get_or ons i false)) (omega arith) ∙ seat_of ons (suc p) i (omega arith) (pick_and e).1

  pub seats_of : (ons : List Bool) (p : ℕ) → ((i : ℕ) → i < length ons → seat_good st n own (p + i) (get_or ons i false) ≡ true) → seats_good st n own p ons ≡ true
  unfolding seats_good
  seats_of [] p w = refl
  seats_of (on ∷ ons) p w =
      both (ap (λ (q : ℕ). seat_good st n own q on) (sym (add-zero p)) ∙ w 0 (omega arith))
      (seats_of ons (suc p) (λ i h. ap (λ (q : ℕ). seat_good st n own q (get_or ons i false)) (omega arith) ∙ w (suc i) (omega arith)))

-- the same by who is live
pub record Seats (st : State) (n own : ℕ) (l : Live) : Type 0 where
  pub members : (p : ℕ) → live_at l p ≡ true → p < n
  pub itself : own_seat st (live_at l own) ≡ true
  pub others : (p : ℕ) → p < n → (p ≡ own → ⊥) → other_seat st (live_at l p) ≡ true

module _ (st : State) (n own : ℕ) (l : Live) (long : length l.on ≡ 64) (most : n ≤ 64) (member : own < n) where
  seat_at : seats_good st n own 0 l.on ≡ true → (p : ℕ) → p < 64 → seat_good st n own p (live_at l p) ≡ true
  seat_at e p h = ap (λ (q : ℕ). seat_good st n own q (live_at l p)) (sym (zero-add p)) ∙ seat_of st n own l.on 0 p (omega arith) e

  pub seated : seats_good st n own 0 l.on ≡ true → Seats st n own l
  unfolding seat_good
  seated e =
      record {
        members = λ p on. inside p on (leb n p) refl;
        itself = sym (pick_false _ _ (lt-leb n own member) ∙ pick_true _ _ (eq-eqb own own refl)) ∙ seat_at e own (omega arith);
        others = λ p h o. sym (pick_false _ _ (lt-leb n p h) ∙ pick_false _ _ (ne_eqb p own o)) ∙ seat_at e p (omega arith);
      }
    where
      below : (p : ℕ) → live_at l p ≡ true → p < 64
      below p on = go (leb 64 p) refl
        where
          go : (b : Bool) → leb 64 p ≡ b → p < 64
          go true t = absurd (false≢true (sym (get_or-eq_default l.on false {n = p} (let h : 64 ≤ p = leb-true 64 p t in omega arith)) ∙ on))
          go false t = leb-false 64 p t

      inside : (p : ℕ) → live_at l p ≡ true → (b : Bool) → leb n p ≡ b → p < n
      inside p on true t = absurd (false≢true (sym (not-true _ (sym (pick_true _ _ t) ∙ seat_at e p (below p on))) ∙ on))
      inside p on false t = leb-false n p t

  pub seating : Seats st n own l → seats_good st n own 0 l.on ≡ true
  unfolding seat_good
  seating k = seats_of st n own l.on 0 (λ i h. ap (λ (q : ℕ). seat_good st n own q (live_at l i)) (zero-add i) ∙ seat i (leb n i) refl (eqb i own) refl)
    where
      off : (p : ℕ) → n ≤ p → (b : Bool) → live_at l p ≡ b → not (live_at l p) ≡ true
      off p h true t = absurd (let x : p < n = k.members p t in omega arith)
      off p h false t = ap not t

      seat : (p : ℕ) (a : Bool) → leb n p ≡ a → (b : Bool) → eqb p own ≡ b → seat_good st n own p (live_at l p) ≡ true
      seat p true s b t = pick_true _ _ s ∙ off p (leb-true n p s) (live_at l p) refl
      seat p false s true t = pick_false _ _ s ∙ pick_true _ _ t ∙ ap (λ (q : ℕ). own_seat st (live_at l q)) (eqb-true p own t) ∙ k.itself
      seat p false s false t = pick_false _ _ s ∙ pick_false _ _ t ∙ k.others p (leb-false n p s) (eqb-false p own t)

-- ---- a struck seat

module _ (l : Live) (p : ℕ) where
  pub struck_off : length l.on ≡ 64 → live_at (without l p) p ≡ false
  struck_off long = go (ltb p 64) refl
    where
      go : (b : Bool) → ltb p 64 ≡ b → live_at (without l p) p ≡ false
      go true t = let h : p < 64 = ltb-true p 64 t in get_or-set_same l.on p false false (omega arith)
      go false t =
          let h : 64 ≤ p = ltb-false p 64 t in
          ap (λ (ons : List Bool). get_or ons p false) (set_out l.on p false (omega arith)) ∙ get_or-eq_default l.on false {n = p} (omega arith)

  pub struck_other : (q : ℕ) → (q ≡ p → ⊥) → live_at (without l p) q ≡ live_at l q
  struck_other q n = get_or-set_other l.on p q false false n

  pub struck_length : length (without l p).on ≡ length l.on
  struck_length = length-set l.on p false

  -- who is live after it was live before
  pub struck_fewer : length l.on ≡ 64 → (q : ℕ) → live_at (without l p) q ≡ true → live_at l q ≡ true
  struck_fewer long q on = go (eqb q p) refl
    where
      go : (b : Bool) → eqb q p ≡ b → live_at l q ≡ true
      go true t = absurd (false≢true (sym (ap (live_at (without l p)) (eqb-true q p t) ∙ struck_off long) ∙ on))
      go false t = sym (struck_other q (eqb-false q p t)) ∙ on
