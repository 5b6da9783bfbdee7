-- Laws of what giving up leaves in the send list and what it tells, as the messages that a test takes. Assumes nothing.
use mathlib.Core.Path.{◌≡◌, refl, sym, ap, subst, ◌∙◌}
use mathlib.Core.Bool.{Bool, true, false, not, false≢true}
use mathlib.Core.List.Memᴰ
use mathlib.Core.List.{List, [], ◌∷◌, ◌++◌, append-nil, Memᴰ}
use Prim.Native.Nat.{ℕ, ◌+◌, ◌<◌, ◌≤◌}
use native.Mathlib.Omega.{arith}
use lib.Dec.{eqb}
use lib.ListN.{length}
use borrow.Author.Tests.{eq-eqb, ne_eqb, eqb-true, eqb-false}
use Rattle.std.proofs.lemmas.Option.{none-some, same_Some}
use Rattle.parts.specs.Messages.{all, flies, fits, only, split_by, best_of, best, has_place}
use Rattle.std.specs.Prelude.{Option, None, Some}
use Rattle.parts.specs.Frames.{flight}
use Rattle.station.specs.Stations.{awaited_of}
use Rattle.station.specs.Strike.{Loss, give_up_to, give_up_at, give_up_flight}
use Rattle.wholeness.specs.Whole.{apart}
use Rattle.parts.specs.declared.list.Message.{Message}
use Rattle.parts.specs.declared.list.Messages.{Messages}
use Rattle.parts.specs.declared.list.Which.{Which}
use Rattle.parts.specs.declared.list.Which.TheVariants.{WaitingFor, HasPlace}
use Rattle.station.specs.declared.station.Station.{Station}
use Rattle.parts.proofs.Laws.Choose.{map_or_either}
use Rattle.parts.proofs.Laws.Messages.{place_here, best_none, best_more, better_first, only_length}
use Rattle.station_theorems.proofs.Laws.Places.{place_of}
use Rattle.station_theorems.proofs.Laws.Kept.{apart_first, apart_rest, apart_only, pack_all, pack_len, pack_length, push_all}
use Rattle.station_theorems.proofs.Laws.Carried.{best_only}
use Rattle.station_theorems.proofs.Laws.Only.{only_same, only_nothing, none_taken, two_parts, member_taken, taken_member}

-- ---- the two parts of a list, as lists

module _ (w : Which) (l : Messages) where
  pub split_kept : all (split_by w l).kept ≡ only (λ (m : Message). not (fits w m)) (all l)
  unfolding split_by
  split_kept = pack_all _

  pub split_gone : all (split_by w l).gone ≡ only (fits w) (all l)
  unfolding split_by
  split_gone = pack_all _

  pub split_gone_len : (split_by w l).gone.len ≡ length (only (fits w) (all l))
  unfolding split_by
  split_gone_len = pack_len _

  pub split_gone_array : length (all l) ≤ 16 → length (split_by w l).gone.items ≡ 16
  unfolding split_by
  split_gone_array h = pack_length (only (fits w) (all l)) (omega (arith, only_length (fits w) (all l)))

-- ---- where places are apart, at most one message has a place

-- a list that holds the found message only, or nothing
record Single (ns : List Message) (b : Option Message) : Type 0 where
  one : (m : Message) → b ≡ Some m → ns ≡ m ∷ []
  nothing : b ≡ None → ns ≡ []

module _ (p : ℕ) where
  -- of messages that all have the place p
  single : (ns : List Message) → ((x : Message) → Memᴰ x ns → x.place ≡ p) → apart [] ns ≡ true → Single ns (best_of (HasPlace p) ns None)
  unfolding fits
  single [] w a = rw (best_none (HasPlace p) None) (record { one = λ m e. absurd (none-some _ e); nothing = λ e. refl })
  single (m ∷ []) w a =
      let found : best_of (HasPlace p) (m ∷ []) None ≡ Some m =
      best_more (HasPlace p) m [] None
      ∙ best_none (HasPlace p) _
      ∙ better_first (HasPlace p) None m (eq-eqb m.place p (w m (Memᴰ.head refl))) refl in
      rw found (record { one = λ x e. ap (λ (y : Message). y ∷ []) (same_Some _ _ e); nothing = λ e. absurd (none-some _ (sym e)) })
  single (m ∷ n ∷ ns) w a =
      let free : has_place (m ∷ []) n.place ≡ false = apart_first (m ∷ []) n ns (apart_rest [] m (n ∷ ns) a) in
      let same : m.place ≡ n.place = w m (Memᴰ.head refl) ∙ sym (w n (Memᴰ.tail (Memᴰ.head refl))) in
      absurd (false≢true (sym free ∙ place_here m [] n.place same))

  -- those of a list that have it
  at_place : (ms : List Message) → apart [] ms ≡ true → Single (only (fits (HasPlace p)) ms) (best_of (HasPlace p) ms None)
  unfolding fits
  at_place ms a =
      let f : Message → Bool = fits (HasPlace p) in
      subst (Single (only f ms)) (best_only p f (λ m e. eq-eqb m.place p e) ms None)
      (single (only f ms) (λ x h. eqb-true x.place p (taken_member f x ms h).1) (apart_only f [] [] ms (λ q e. e) a))

-- so messages with the same place are the same
pub same_place : (ms : List Message) → apart [] ms ≡ true → (x y : Message) → Memᴰ x ms → Memᴰ y ms → x.place ≡ y.place → x ≡ y
unfolding fits
same_place ms a x y h i e = go (best_of (HasPlace p) ms None) (at_place p ms a)
  where
    p : ℕ
    p = y.place

    f : Message → Bool
    f = fits (HasPlace p)

    x_there : Memᴰ x (only f ms)
    x_there = member_taken f x ms h (eq-eqb x.place p e)

    y_there : Memᴰ y (only f ms)
    y_there = member_taken f y ms i (eq-eqb y.place p refl)

    go : (b : Option Message) → Single (only f ms) b → x ≡ y
    go (Some m) k =
        Memᴰ.eq_of_singleton (subst (Memᴰ x) (k.one m refl) x_there)
        ∙ sym (Memᴰ.eq_of_singleton (subst (Memᴰ y) (k.one m refl) y_there))
    go None k = absurd (Memᴰ.not-nil (subst (Memᴰ x) (k.nothing refl) x_there))

-- and a message that a test does not take leaves its place free
pub place_left_free : (g : Message → Bool) (ms : List Message) → apart [] ms ≡ true → (x : Message) → Memᴰ x ms → g x ≡ false
    → has_place (only g ms) x.place ≡ false
place_left_free g ms a x h n = go (has_place (only g ms) x.place) refl
  where
    go : (t : Bool) → has_place (only g ms) x.place ≡ t → has_place (only g ms) x.place ≡ false
    go true e =
        let r = place_of (only g ms) x.place e in
        let k = taken_member g r.0 ms r.1 in
        absurd (false≢true (sym n ∙ ap g (sym (same_place ms a r.0 x k.0 h r.2)) ∙ k.1))
    go false e = e

-- ---- the message in flight is the one at its place

test_turned : (a b : ℕ) → eqb a b ≡ eqb b a
test_turned a b = go (eqb a b) refl
  where
    go : (t : Bool) → eqb a b ≡ t → eqb a b ≡ eqb b a
    go true e = e ∙ sym (eq-eqb b a (sym (eqb-true a b e)))
    go false e = e ∙ sym (ne_eqb b a (λ q. eqb-false a b e (sym q)))

pub flies_at : (f : Option ℕ) (p : ℕ) → f ≡ Some p → (m : Message) → flies f m ≡ fits (HasPlace p) m
unfolding fits
flies_at f p on m = ap (λ (g : Option ℕ). flies g m) on ∙ test_turned p m.place

pub flies_not : (f : Option ℕ) → f ≡ None → (m : Message) → flies f m ≡ false
flies_not f off m = ap (λ (g : Option ℕ). flies g m) off

-- so at most one message flies
pub one_flies : (f : Option ℕ) (ms : List Message) → apart [] ms ≡ true → length (only (flies f) ms) ≤ 1
one_flies None ms a = rw (only_nothing (flies None) (flies_not None refl) ms) (omega arith)
one_flies (Some p) ms a = rw (only_same (flies (Some p)) (fits (HasPlace p)) (flies_at (Some p) p refl) ms) (found (best_of (HasPlace p) ms None) (at_place p ms a))
  where
    found : (b : Option Message) → Single (only (fits (HasPlace p)) ms) b → length (only (fits (HasPlace p)) ms) ≤ 1
    found (Some m) k = rw (k.one m refl) (omega arith)
    found None k = rw (k.nothing refl) (omega arith)

-- ---- the message in flight is given up

-- places are apart, and there is room to tell one more message
pub record Ready (l : Loss) : Type 0 where
  pub places : apart [] (all l.station.sends) ≡ true
  pub array : length l.gone.items ≡ 16
  pub room : l.gone.len + length (all l.station.sends) ≤ 16

-- from l to r the messages in flight leave, and are told behind the others
pub record FlightLeaves (f : Option ℕ) (l r : Loss) : Type 0 where
  pub kept : all r.station.sends ≡ only (λ (m : Message). not (flies f m)) (all l.station.sends)
  pub told : all r.gone ≡ all l.gone ++ only (flies f) (all l.station.sends)

module _ (l : Loss) (f : Option ℕ) (ready : Ready l) where
  nobody_flies : only (flies f) (all l.station.sends) ≡ [] → FlightLeaves f l l
  nobody_flies e =
      record {
        kept = sym (none_taken (flies f) (all l.station.sends) e);
        told = sym (ap (λ (ms : List Message). all l.gone ++ ms) e ∙ append-nil (all l.gone));
      }

  flight_at : (p : ℕ) → f ≡ Some p → FlightLeaves f l (give_up_at l p)
  unfolding give_up_at best
  flight_at p on =
      map_or_either (FlightLeaves f l) _ (best_of (HasPlace p) ms None) l
      (λ m e.
      let one : only (flies f) ms ≡ m ∷ [] = there ∙ (at_place p ms ready.places).one m e in
      let some : length (only (flies f) ms) ≡ 1 = ap length one in
      let few : l.gone.len < 16 = omega (arith, ready.room, only_length (flies f) ms) in
      record {
        kept = split_kept (HasPlace p) l.station.sends ∙ others;
        told = push_all l.gone m ready.array few ∙ ap (λ (ns : List Message). all l.gone ++ ns) (sym one);
      })
      (λ e. nobody_flies (there ∙ (at_place p ms ready.places).nothing e))
    where
      ms : List Message
      ms = all l.station.sends

      there : only (flies f) ms ≡ only (fits (HasPlace p)) ms
      there = only_same (flies f) (fits (HasPlace p)) (flies_at f p on) ms

      others : only (λ (m : Message). not (fits (HasPlace p) m)) ms ≡ only (λ (m : Message). not (flies f m)) ms
      others = only_same _ _ (λ m. ap not (sym (flies_at f p on m))) ms

pub flight_leaves : (l : Loss) → Ready l → FlightLeaves (flight (awaited_of l.station)) l (give_up_flight l)
unfolding give_up_flight
flight_leaves l ready =
    map_or_either (FlightLeaves f l) (give_up_at l) f l (flight_at l f ready) (λ e. nobody_flies l f ready (only_nothing (flies f) (flies_not f e) _))
  where
    f : Option ℕ
    f = flight (awaited_of l.station)

-- ---- the waiting messages to a station are given up

module _ (s : Station) (p : ℕ) where
  -- who waits for p
  abbrev pub waiting : Message → Bool
  waiting m = fits (WaitingFor (flight (awaited_of s)) p) m

  pub to_kept : all (give_up_to s p).station.sends ≡ only (λ (m : Message). not (waiting m)) (all s.sends)
  unfolding give_up_to
  to_kept = split_kept _ s.sends

  pub to_told : all (give_up_to s p).gone ≡ only waiting (all s.sends)
  unfolding give_up_to
  to_told = split_gone _ s.sends

  to_array : length (all s.sends) ≤ 16 → length (give_up_to s p).gone.items ≡ 16
  unfolding give_up_to
  to_array h = split_gone_array _ s.sends h

  to_len : (give_up_to s p).gone.len ≡ length (only waiting (all s.sends))
  unfolding give_up_to
  to_len = split_gone_len _ s.sends

  pub to_ready : apart [] (all s.sends) ≡ true → length (all s.sends) ≤ 16 → Ready (give_up_to s p)
  to_ready a h =
      record {
        places = rw to_kept (apart_only (λ (m : Message). not (waiting m)) [] [] (all s.sends) (λ q e. e) a);
        array = to_array h;
        room = rw (to_kept, to_len) (omega (arith, two_parts waiting (all s.sends)));
      }
