-- Laws of whole's tests, one element at a time, as its loops go. Assumes nothing.
use mathlib.Core.Path.{◌≡◌, refl}
use mathlib.Core.Bool.{Bool, true, false}
use mathlib.Core.List.{List, [], ◌∷◌, ◌++◌}
use Prim.Native.Nat.{ℕ, ◌+◌, ◌≤◌, ◌<◌}
use native.Mathlib.Numerals.{add-one}
use lib.ListN.{get_or, drop, length, drop_of_length-le}
use lib.Seq.{drop-cons}
use Rattle.parts.specs.Choose.{pick, all_of, every}
use Rattle.parts.specs.Messages.{has_place}
use borrow.Author.Tests.{ltb-true}
use Rattle.parts.proofs.Laws.Tests.{held, each_first, each_rest, each_weaker}
use Rattle.wholeness.specs.Whole.{seat_good, seats_good, message_good, placed, apart}
use Rattle.parts.specs.declared.list.Message.{Message}
use Rattle.parts.specs.declared.moves.State.{State}

-- ---- tests in a row

pub test_stops : (b : Bool) (ts : List Bool) → b ≡ false → all_of (b ∷ ts) ≡ false
unfolding all_of pick
test_stops b ts e = rw e

pub test_passes : (b : Bool) (ts : List Bool) → b ≡ true → all_of (b ∷ ts) ≡ all_of ts
unfolding all_of pick
test_passes b ts e = rw e

pub test_last : (b : Bool) → all_of (b ∷ []) ≡ b
unfolding all_of pick
test_last true = refl
test_last false = refl

-- the last is known to pass
pub test_known : (a b : Bool) → b ≡ true → all_of (a ∷ b ∷ []) ≡ a
unfolding all_of pick
test_known true b e = rw e
test_known false b e = refl

-- ---- every

module _ {A : Type 0} (f : A → Bool) where
  pub every_none : (l : List A) → l ≡ [] → every f l ≡ true
  unfolding every
  every_none l e = rw e

  pub every_here : (l r : List A) (a : A) → l ≡ a ∷ r → f a ≡ false → every f l ≡ false
  unfolding every pick
  every_here l r a e h = rw (e, h)

  pub every_more : (l r : List A) (a : A) → l ≡ a ∷ r → f a ≡ true → every f l ≡ every f r
  unfolding every pick
  every_more l r a e h = rw (e, h)

-- ---- places

pub good_placed : (n own : ℕ) (ms : List Message) → every (message_good n own) ms ≡ true → every placed ms ≡ true
unfolding message_good
good_placed n own ms = each_weaker (message_good n own) placed (λ m h. first m h) ms
  where
    first : (m : Message) → message_good n own m ≡ true → placed m ≡ true
    first m h = (held _ h).0

module _ (ms r : List Message) (m : Message) (e : ms ≡ m ∷ r) (h : every placed ms ≡ true) where
  pub place_below : m.place < 16
  place_below = ltb-true m.place 16 (each_first placed m r (rw (← e) h))

  pub rest_placed : every placed r ≡ true
  rest_placed = each_rest placed m r (rw (← e) h)

-- ---- places apart

pub apart_none : (b l : List Message) → l ≡ [] → apart b l ≡ true
unfolding apart
apart_none b l e = rw e

pub apart_here : (b l r : List Message) (m : Message) → l ≡ m ∷ r → has_place b m.place ≡ true → apart b l ≡ false
unfolding apart pick
apart_here b l r m e h = rw (e, h)

pub apart_more : (b b' l r : List Message) (m : Message) → l ≡ m ∷ r → b' ≡ b ++ m ∷ [] → has_place b m.place ≡ false
    → apart b l ≡ apart b' r
unfolding apart pick
apart_more b b' l r m e f h = rw (e, f, h)

-- ---- seats

module _ (st : State) (n own : ℕ) (ons : List Bool) where
  pub seats_none : (p : ℕ) → length ons ≤ p → seats_good st n own p (drop p ons) ≡ true
  unfolding seats_good
  seats_none p h = rw (drop_of_length-le ons {i = p} h)

  pub seats_here : (p : ℕ) → p < length ons → seat_good st n own p (get_or ons p false) ≡ false → seats_good st n own p (drop p ons) ≡ false
  unfolding seats_good pick
  seats_here p h e = rw (drop-cons ons p false h, e)

  pub seats_more : (p : ℕ) → p < length ons → seat_good st n own p (get_or ons p false) ≡ true
      → seats_good st n own p (drop p ons) ≡ seats_good st n own (p + 1) (drop (p + 1) ons)
  unfolding seats_good pick
  seats_more p h e = rw (drop-cons ons p false h, e, add-one p)
