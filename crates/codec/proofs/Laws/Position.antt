-- Laws of the ring position of an address: what is passed, member by member, and what is left. Assumes nothing.
use mathlib.Core.Path.{◌≡◌, refl, ◌∙◌}
use mathlib.Core.Bool.{Bool, true, false}
use mathlib.Core.List.{List}
use Prim.Native.Nat.{ℕ, ◌+◌, ◌<◌, ◌≤◌}
use native.Mathlib.Nat.{add-zero}
use native.Mathlib.Numerals.{add-one}
use native.Mathlib.Omega.{arith}
use borrow.Author.Tests.{eq-eqb, ne_eqb, eqb-true, eqb-false, lt-ltb, le-ltb}
use lib.Dec.{eqb}
use lib.ListN.{length, drop, get_or, drop_of_length-le}
use lib.Seq.{drop-cons}
use Rattle.codec.specs.Ring.{position, is_member}

module _ (ms : List ℕ) (a i : ℕ) (more : i < length ms) where
  pub position_here : get_or ms i 0 ≡ a → i + position (drop i ms) a ≡ i
  unfolding position
  position_here e = rw (drop-cons ms i 0 more, eq-eqb (get_or ms i 0) a e) (add-zero i)

  pub position_further : (get_or ms i 0 ≡ a → ⊥) → i + position (drop i ms) a ≡ i + 1 + position (drop (i + 1) ms) a
  unfolding position
  position_further n = rw (drop-cons ms i 0 more, ne_eqb (get_or ms i 0) a n, add-one i) (omega arith)

pub position_none : (ms : List ℕ) (a i : ℕ) → length ms ≤ i → i + position (drop i ms) a ≡ i
unfolding position
position_none ms a i h = rw (drop_of_length-le ms h) (add-zero i)

-- ---- whether an address is a member's

pub member_at_lem : (ms : List ℕ) (a i : ℕ) → position ms a ≡ i → i < length ms → is_member ms a ≡ true
member_at_lem ms a i e h = lt-ltb (position ms a) (length ms) (rw e h)

pub no_member : (ms : List ℕ) (a i : ℕ) → position ms a ≡ i + position (drop i ms) a → length ms ≤ i → is_member ms a ≡ false
no_member ms a i e h = le-ltb (position ms a) (length ms) (omega arith)

-- where one member is left, it is that one or none
pub last_member : (ms : List ℕ) (a i : ℕ) → position ms a ≡ i + position (drop i ms) a → i < length ms → length ms ≤ i + 1 → is_member ms a ≡ eqb (get_or ms i 0) a
last_member ms a i e more last = go (eqb (get_or ms i 0) a) refl
  where
    go : (b : Bool) → eqb (get_or ms i 0) a ≡ b → is_member ms a ≡ b
    go true h = member_at_lem ms a i (e ∙ position_here ms a i more (eqb-true _ _ h)) more
    go false h = no_member ms a (i + 1) (e ∙ position_further ms a i more (eqb-false _ _ h)) last
