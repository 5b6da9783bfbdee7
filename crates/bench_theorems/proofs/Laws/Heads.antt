-- Laws of the head: an acknowledgement leaves it as it was, since the message that leaves did not wait. Assumes nothing.
use mathlib.Core.Path.{◌≡◌, refl, sym, ap, ◌∙◌}
use mathlib.Core.Bool.{Bool, true, false, not}
use mathlib.Core.List.{List, [], ◌∷◌}
use Prim.Native.Nat.{ℕ}
use lib.Dec.{eqb}
use borrow.Author.Tests.{eqb-true, eqb-false, eq-eqb, ne_eqb}
use Rattle.std.specs.Option.{option_map_or}
use Rattle.parts.specs.Messages.{all, fits, only, split_by, better_of, best_of, best}
use Rattle.parts.specs.Frames.{flight}
use Rattle.parts.specs.Moves.{is_waiting}
use Rattle.station.specs.Stations.{state_of, awaited_of, quiet, head}
use Rattle.station.specs.Strike.{leave}
use Rattle.station.specs.Heard.{landed, acknowledge}
use Rattle.parts.specs.declared.moves.State.TheVariants.{Idle}
use Rattle.parts.specs.declared.list.Message.{Message}
use Rattle.parts.specs.declared.list.Messages.{Messages}
use Rattle.parts.specs.declared.list.Which.{Which}
use Rattle.parts.specs.declared.list.Which.TheVariants.{AnyWaiting, HasPlace}
use Rattle.std.specs.Prelude.{Option, None, Some}
use Rattle.station.specs.declared.station.Station.{Station}
use Rattle.parts.proofs.Laws.Messages.{best_none, best_more, only_none, only_one, only_not, better_unfit}
use Rattle.station_theorems.specs.Shaped.{WholeStation}
use Rattle.station_theorems.proofs.Laws.Kept.{pack_all}
use Rattle.station_theorems.proofs.Laws.Based.{idle_flight}
use Rattle.station_theorems.proofs.Laws.Sound.{whole_sound}
use Rattle.bench_theorems.proofs.Laws.Listening.{Listens, idle, waits, acknowledged_by, idle_stays}

abbrev others : ℕ → Message → Bool
others p m = not (fits (HasPlace p) m)

better_same : (v w : Which) (b : Option Message) (m : Message) → fits v m ≡ fits w m → better_of v b m ≡ better_of w b m
unfolding better_of
better_same v w b m e = rw e

-- all wait where none is in flight; where one is, all others
free_fits : (m : Message) → fits (AnyWaiting None) m ≡ true
unfolding fits
free_fits m = refl

flown_fits : (p : ℕ) (m : Message) (t : Bool) → eqb m.place p ≡ t → fits (AnyWaiting (Some p)) m ≡ not t
unfolding fits
flown_fits p m true e = let q : m.place ≡ p = eqb-true m.place p e in ap not (eq-eqb p m.place (sym q))
flown_fits p m false e = ap not (ne_eqb p m.place (λ q. eqb-false m.place p e (sym q)))

other_fits : (p : ℕ) (m : Message) (t : Bool) → eqb m.place p ≡ t → others p m ≡ not t
unfolding fits
other_fits p m t e = ap not e

-- the best of those that are left is the best of those that waited
best_left : (p : ℕ) (ms : List Message) (b : Option Message) → best_of (AnyWaiting None) (only (others p) ms) b ≡ best_of (AnyWaiting (Some p)) ms b
best_left p [] b =
    ap (λ (l : List Message). best_of (AnyWaiting None) l b) (only_none (others p)) ∙ best_none (AnyWaiting None) b ∙ sym (best_none (AnyWaiting (Some p)) b)
best_left p (m ∷ ms) b = go (eqb m.place p) refl (λ c. best_left p ms c)
  where
    v : Which
    v = AnyWaiting None

    w : Which
    w = AnyWaiting (Some p)

    go : (t : Bool) → eqb m.place p ≡ t → ((c : Option Message) → best_of v (only (others p) ms) c ≡ best_of w ms c) → best_of v (only (others p) (m ∷ ms)) b ≡ best_of w (m ∷ ms) b
    go true e rest =
        ap (λ (l : List Message). best_of v l b) (only_not (others p) m ms (other_fits p m true e))
        ∙ rest b
        ∙ sym (best_more w m ms b ∙ ap (best_of w ms) (better_unfit w b m (flown_fits p m true e)))
    go false e rest =
        ap (λ (l : List Message). best_of v l b) (only_one (others p) m ms (other_fits p m false e))
        ∙ best_more v m (only (others p) ms) b
        ∙ rest (better_of v b m)
        ∙ ap (best_of w ms) (better_same v w b m (free_fits m ∙ sym (flown_fits p m false e)))
        ∙ sym (best_more w m ms b)

left_all : (s : Station) (p : ℕ) → all (leave s p).sends ≡ only (others p) (all s.sends)
unfolding split_by
left_all s p = pack_all (only (others p) (all s.sends))

pub head_landed : (s : Station) → head (quiet (landed s) Idle) ≡ head s
unfolding head landed best
head_landed s = go (flight (awaited_of s))
  where
    go : (f : Option ℕ) → best (AnyWaiting None) (quiet (option_map_or (leave s) f s) Idle).sends ≡ best (AnyWaiting f) s.sends
    go None = refl
    go (Some p) = ap (λ (l : List Message). best_of (AnyWaiting None) l None) (left_all s p) ∙ best_left p (all s.sends) None

pub head_acknowledged : {from k : ℕ} {s : Station} → Listens from k s → head (acknowledge s from k) ≡ head s
head_acknowledged {from} {k} {s} (idle i) = ap head (idle_stays s from k i)
head_acknowledged {from} {k} {s} (waits w e) = ap head (acknowledged_by s from k e) ∙ head_landed s

-- ---- where nothing is in flight

-- after an acknowledgement no message is
pub rested_flight : {from k : ℕ} {s : Station} → Listens from k s → WholeStation s → flight (awaited_of (acknowledge s from k)) ≡ None
rested_flight {from} {k} {s} (idle i) w =
    ap (λ (t : Station). flight (awaited_of t)) (idle_stays s from k i)
    ∙ idle_flight (state_of s) s.n s.own s.sends (awaited_of s) (ap is_waiting i) (whole_sound s w).awaited
rested_flight {from} {k} {s} (waits w e) v = ap (λ (t : Station). flight (awaited_of t)) (acknowledged_by s from k e)

pub head_same : (s t : Station) → t.sends ≡ s.sends → flight (awaited_of t) ≡ flight (awaited_of s) → head t ≡ head s
unfolding head
head_same s t a b = ap (λ (l : Messages). best (AnyWaiting (flight (awaited_of t))) l) a ∙ ap (λ (f : Option ℕ). best (AnyWaiting f) s.sends) b
