-- A made station is whole. Assumes nothing.
use mathlib.Core.Path.{◌≡◌, refl, ◌∙◌}
use mathlib.Core.Bool.{Bool, true, false}
use mathlib.Core.List.{[], ◌++◌}
use Prim.Native.Nat.{ℕ, zero, suc, ◌+◌, ◌-◌, ◌≤◌, ◌<◌}
use native.Mathlib.Nat.{zero-add}
use native.Mathlib.Omega.{arith}
use lib.Dec.{leb, eqb}
use lib.ListN.{replicate, length-append, length-replicate}
use borrow.Author.Tests.{le-leb, lt-leb, leb-true, leb-false}
use Rattle.parts.specs.Choose.{pick}
use Rattle.parts.specs.Messages.{none, pack}
use Rattle.parts.specs.Live.{full, seats}
use Rattle.station.specs.Stations.{new_turn, made}
use Rattle.wholeness.specs.Whole.{own_seat, other_seat, seat_good, seats_good, company_good, list_good, waiters_good, awaited_good}
use Rattle.parts.specs.declared.moves.State.TheVariants.{Offline}
use Rattle.parts.proofs.Laws.Choose.{pick_true, pick_false}
use Rattle.parts.proofs.Laws.Tests.{both, each_none}
use Rattle.parts.proofs.Laws.Live.{seats_inside, seats_all, seats_most}
use Rattle.station_theorems.specs.Shaped.{Shaped, WholeStation}
use Rattle.station_theorems.proofs.Laws.Kept.{list_made, apart_end, pack_rest}
use Rattle.station_theorems.proofs.Laws.Based.{ring_good_lem}
use Rattle.station_theorems.proofs.Laws.Sound.{Sound, whole_station, turn_fits_lem}

-- ---- the seats: the first n are live, the others are not

module _ (n own : ℕ) where
  member_on : (p : ℕ) → p < n → seat_good Offline n own p true ≡ true
  unfolding seat_good own_seat other_seat
  member_on p h = pick_false _ _ (lt-leb n p h) ∙ go (eqb p own)
    where
      go : (b : Bool) → pick b true true ≡ true
      go true = pick_true true true refl
      go false = pick_false true true refl

  other_off : (p : ℕ) → n ≤ p → seat_good Offline n own p false ≡ true
  unfolding seat_good
  other_off p h = pick_true _ _ (le-leb n p h)

  rest_off : (k p : ℕ) → n ≤ p → seats_good Offline n own p (replicate k false) ≡ true
  unfolding seats_good
  rest_off zero p h = refl
  rest_off (suc k) p h = both (other_off p h) (rest_off k (suc p) (omega arith))

  members_on : (k j p : ℕ) → p + k ≡ n → seats_good Offline n own p (replicate k true ++ replicate j false) ≡ true
  unfolding seats_good
  members_on zero j p e = rest_off j p (omega arith)
  members_on (suc k) j p e = both (member_on p (omega arith)) (members_on k j (suc p) (omega arith))

module _ (n limit own : ℕ) (low : 2 ≤ n) (high : n ≤ 64) where
  seats_n : seats n ≡ n
  seats_n = go (leb 64 n) refl
    where
      go : (b : Bool) → leb 64 n ≡ b → seats n ≡ n
      go true e = let h : 64 ≤ n = leb-true 64 n e in seats_all n h ∙ omega arith
      go false e = seats_inside n (leb-false 64 n e)

  made_seats : seats_good Offline n own 0 (full n).on ≡ true
  unfolding full
  made_seats = members_on n own (seats n) (64 - seats n) 0 (zero-add (seats n) ∙ seats_n)

  made_shaped : Shaped (made n limit own)
  unfolding full
  made_shaped =
      record {
        seats = length-append (replicate (seats n) true) (replicate (64 - seats n) false) ∙ rw (length-replicate (seats n) true, length-replicate (64 - seats n) false) (omega (arith, seats_most n));
        sends = refl;
        receives = refl;
      }

  made_list : list_good n own none ≡ true
  unfolding pack
  made_list = list_made n own none (omega arith) (each_none _) (apart_end []) (pack_rest [])

  made_sound : 1 ≤ limit → limit ≤ 15 → own < n → Sound (made n limit own)
  unfolding company_good waiters_good awaited_good
  made_sound a b c =
      record {
        shaped = made_shaped;
        ring = ring_good_lem n limit own (record { some_members = low; most_members = high; some_retry = a; most_retries = b; member = c });
        seats = made_seats;
        company = refl;
        sends = made_list;
        receives = made_list;
        waiters = pick_false _ _ refl ∙ each_none _;
        retries = turn_fits_lem new_turn limit (omega arith);
        awaited = refl;
      }

-- for 2 to 64 members, a retry limit of 1 to 15 and a member as this station
pub made_whole : (n limit own : ℕ) → 2 ≤ n → n ≤ 64 → 1 ≤ limit → limit ≤ 15 → own < n → WholeStation (made n limit own)
made_whole n limit own a b c d e = whole_station (made n limit own) (made_sound n limit own a b c d e)
