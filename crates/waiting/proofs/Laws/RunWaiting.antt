-- The messages that wait at a station, as a list: its best is the head, and an acknowledgement leaves it as it was. Assumes nothing.
use mathlib.Core.Path.{◌≡◌, refl, sym, ap, subst, ◌∙◌}
use mathlib.Core.Bool.{Bool, true, false, not}
use mathlib.Core.List.{List, [], ◌∷◌, Memᴰ}
use Prim.Native.Nat.{ℕ}
use lib.Dec.{eqb}
use borrow.Author.Tests.{eqb-true, eqb-false, eq-eqb, ne_eqb}
use Rattle.std.specs.Option.{option_map_or}
use Rattle.parts.specs.Choose.{pick}
use Rattle.parts.specs.Messages.{all, flies, fits, only, split_by, better_of, best_of, best}
use Rattle.std.specs.Prelude.{Option, None, Some}
use Rattle.parts.specs.Frames.{flight}
use Rattle.station.specs.Stations.{awaited_of, quiet, head}
use Rattle.station.specs.Strike.{leave}
use Rattle.station.specs.Heard.{landed, acknowledge}
use Rattle.parts.specs.declared.moves.State.TheVariants.{Idle}
use Rattle.parts.specs.declared.list.Message.{Message}
use Rattle.parts.specs.declared.list.Which.TheVariants.{AnyWaiting, HasPlace}
use Rattle.station.specs.declared.station.Station.{Station}
use Rattle.parts.proofs.Laws.Messages.{best_none, best_more, only_none, only_one, only_not, better_unfit}
use Rattle.station_theorems.proofs.Laws.Kept.{pack_all}
use Rattle.bench_theorems.proofs.Laws.Listening.{Listens, idle, waits, acknowledged_by, idle_stays}

-- those of a list that wait while f is in flight
unfoldable pub resting : Option ℕ → List Message → List Message
resting f ms = only (fits (AnyWaiting f)) ms

-- those that wait at a station
unfoldable pub waiting : Station → List Message
waiting s = resting (flight (awaited_of s)) (all s.sends)

-- the best of a list of waiting messages
unfoldable pub top : List Message → Option Message
top ms = best_of (AnyWaiting None) ms None

-- ---- a message rests or flies

rests_fits : (f : Option ℕ) (m : Message) → flies f m ≡ false → fits (AnyWaiting f) m ≡ true
unfolding fits
rests_fits f m e = ap not e

flies_fits : (f : Option ℕ) (m : Message) → flies f m ≡ true → fits (AnyWaiting f) m ≡ false
unfolding fits
flies_fits f m e = ap not e

pub resting_none : (f : Option ℕ) → resting f [] ≡ []
unfolding resting
resting_none f = only_none (fits (AnyWaiting f))

pub resting_rests : (f : Option ℕ) (m : Message) (ms : List Message) → flies f m ≡ false → resting f (m ∷ ms) ≡ m ∷ resting f ms
unfolding resting
resting_rests f m ms e = only_one (fits (AnyWaiting f)) m ms (rests_fits f m e)

pub resting_flies : (f : Option ℕ) (m : Message) (ms : List Message) → flies f m ≡ true → resting f (m ∷ ms) ≡ resting f ms
unfolding resting
resting_flies f m ms e = only_not (fits (AnyWaiting f)) m ms (flies_fits f m e)

-- with none in flight all wait
pub resting_all : (f : Option ℕ) → f ≡ None → (ms : List Message) → resting f ms ≡ ms
resting_all f e [] = resting_none f
resting_all f e (m ∷ ms) =
    resting_rests f m ms (ap (λ (g : Option ℕ). flies g m) e) ∙ ap (λ (l : List Message). m ∷ l) (resting_all f e ms)

pub resting_listed : (f : Option ℕ) (m : Message) (ms : List Message) → flies f m ≡ false → Memᴰ m ms → Memᴰ m (resting f ms)
resting_listed f m [] e h = elim h [ ]
resting_listed f m (a ∷ ms) e (Memᴰ.head x) =
    subst (Memᴰ m) (sym (resting_rests f a ms (ap (flies f) (sym x) ∙ e))) (Memᴰ.head x)
resting_listed f m (a ∷ ms) e (Memᴰ.tail l) = go (flies f a) refl (resting_listed f m ms e l)
  where
    go : (t : Bool) → flies f a ≡ t → Memᴰ m (resting f ms) → Memᴰ m (resting f (a ∷ ms))
    go true d r = subst (Memᴰ m) (sym (resting_flies f a ms d)) r
    go false d r = subst (Memᴰ m) (sym (resting_rests f a ms d)) (Memᴰ.tail r)

-- ---- the head

better_free : (f : Option ℕ) (b : Option Message) (m : Message) → flies f m ≡ false → better_of (AnyWaiting None) b m ≡ better_of (AnyWaiting f) b m
unfolding better_of
better_free f b m e = rw (rests_fits f m e, rests_fits None m refl)

best_resting : (f : Option ℕ) (ms : List Message) (b : Option Message) → best_of (AnyWaiting None) (resting f ms) b ≡ best_of (AnyWaiting f) ms b
best_resting f [] b =
    ap (λ (l : List Message). best_of (AnyWaiting None) l b) (resting_none f) ∙ best_none (AnyWaiting None) b ∙ sym (best_none (AnyWaiting f) b)
best_resting f (m ∷ ms) b = go (flies f m) refl (best_resting f ms)
  where
    go : (t : Bool) → flies f m ≡ t → ((c : Option Message) → best_of (AnyWaiting None) (resting f ms) c ≡ best_of (AnyWaiting f) ms c)
        → best_of (AnyWaiting None) (resting f (m ∷ ms)) b ≡ best_of (AnyWaiting f) (m ∷ ms) b
    go true e rest =
        ap (λ (l : List Message). best_of (AnyWaiting None) l b) (resting_flies f m ms e)
        ∙ rest b
        ∙ ap (best_of (AnyWaiting f) ms) (sym (better_unfit (AnyWaiting f) b m (flies_fits f m e)))
        ∙ sym (best_more (AnyWaiting f) m ms b)
    go false e rest =
        ap (λ (l : List Message). best_of (AnyWaiting None) l b) (resting_rests f m ms e)
        ∙ best_more (AnyWaiting None) m (resting f ms) b
        ∙ rest (better_of (AnyWaiting None) b m)
        ∙ ap (best_of (AnyWaiting f) ms) (better_free f b m e)
        ∙ sym (best_more (AnyWaiting f) m ms b)

pub head_top : (s : Station) → head s ≡ top (waiting s)
unfolding head top waiting best
head_top s = sym (best_resting (flight (awaited_of s)) (all s.sends) None)

pub top_none : top [] ≡ None
unfolding top
top_none = best_none (AnyWaiting None) None

pub top_one : (m : Message) → top (m ∷ []) ≡ Some m
unfolding top best_of better_of fits pick
top_one m = refl

-- ---- an acknowledgement

turned : (a b : ℕ) → eqb a b ≡ eqb b a
turned a b = go (eqb a b) refl
  where
    go : (t : Bool) → eqb a b ≡ t → t ≡ eqb b a
    go true e = sym (eq-eqb b a (sym (eqb-true a b e)))
    go false e = sym (ne_eqb b a (λ q. eqb-false a b e (sym q)))

-- the others wait
left_fits : (p : ℕ) (m : Message) → not (fits (HasPlace p) m) ≡ fits (AnyWaiting (Some p)) m
unfolding fits
left_fits p m = ap not (turned m.place p)

left_all : (s : Station) (p : ℕ) → all (leave s p).sends ≡ resting (Some p) (all s.sends)
unfolding split_by resting
left_all s p = pack_all (only (λ (m : Message). not (fits (HasPlace p) m)) (all s.sends)) ∙ (λ i. only (λ (m : Message). left_fits p m i) (all s.sends))

landed_waits : (s : Station) → waiting (quiet (landed s) Idle) ≡ waiting s
unfolding waiting landed
landed_waits s = go (flight (awaited_of s))
  where
    go : (f : Option ℕ) → resting None (all (quiet (option_map_or (leave s) f s) Idle).sends) ≡ resting f (all s.sends)
    go None = refl
    go (Some p) = resting_all None refl _ ∙ left_all s p

pub acknowledged_waits : {from k : ℕ} {s : Station} → Listens from k s → waiting (acknowledge s from k) ≡ waiting s
acknowledged_waits {from} {k} {s} (idle i) = ap waiting (idle_stays s from k i)
acknowledged_waits {from} {k} {s} (waits w e) = ap waiting (acknowledged_by s from k e) ∙ landed_waits s
