-- A waiting message above every other waiting one is the head of its station, and every other station's head is lower. Assumes nothing.
use mathlib.Core.Path.{◌≡◌, refl, sym, ap, subst, ◌∙◌}
use mathlib.Core.Bool.{Bool, true, false, not, false≢true}
use mathlib.Core.List.Memᴰ
use mathlib.Core.List.{List, [], ◌∷◌, Memᴰ}
use mathlib.Core.Logic.{◌⊎◌, inl, inr}
use Prim.Native.Nat.{ℕ, ◌<◌, ◌≤◌}
use native.Mathlib.Omega.{arith}
use lib.Dec.{eqb}
use borrow.Author.Tests.{eqb-true, eqb-false, not-true}
use Rattle.std.proofs.lemmas.Option.{same_Some}
use Rattle.parts.specs.Frames.{flight}
use Rattle.parts.specs.Messages.{all, flies, fits, best_of}
use Rattle.std.specs.Prelude.{Option, None, Some}
use Rattle.sent.specs.Round.{priority_of}
use Rattle.station.specs.Stations.{awaited_of, head}
use Rattle.wholeness.specs.Whole.{apart, message_good}
use Rattle.parts.specs.declared.list.Message.{Message}
use Rattle.parts.specs.declared.list.Which.{Which}
use Rattle.parts.specs.declared.list.Which.TheVariants.{AnyWaiting, HasPlace}
use Rattle.station.specs.declared.station.Station.{Station}
use Rattle.station_theorems.specs.Shaped.{WholeStation}
use Rattle.station_theorems.specs.Head.{First}
use Rattle.station_theorems.proofs.Laws.Carried.{best_found}
use Rattle.station_theorems.proofs.Laws.Kept.{list_messages, list_apart}
use Rattle.station_theorems.proofs.Laws.Members.{each_member, standing, stood}
use Rattle.station_theorems.proofs.Laws.Sound.{whole_sound}
use Rattle.station_theorems.proofs.Theorems.GoodList.{good_message}
use Rattle.station_theorems.proofs.Theorems.Head.{head_is_first}
use Rattle.bench.specs.Ring.{station_at}
use Rattle.bench.specs.declared.ring.Bench.{Bench}
use Rattle.bench_theorems.specs.Quiet.{Quiet}
use Rattle.waiting.specs.Waiting.{Spot, Waits, OnTop}
use Rattle.waiting.proofs.Laws.Ahead.{Tops}

-- ---- a list

-- two messages of a list with the same place are one
pub one_place : (ms : List Message) → apart [] ms ≡ true → (x y : Message) → Memᴰ x ms → Memᴰ y ms → x.place ≡ y.place → x ≡ y
one_place ms a x y h i e =
    let u = stood h in
    let v = stood i in
    same_Some _ _
    (sym (best_found ms u.0 u.1 x a u.2) ∙ ap (λ (p : ℕ). best_of (HasPlace p) ms None) e ∙ best_found ms v.0 v.1 y a v.2)

none_higher : (w : Which) (ms : List Message) (m : Message) → First w ms m → (x : Message) → Memᴰ x ms → fits w x ≡ true → x.priority ≤ m.priority
none_higher w ms m f x h t = go (Memᴰ.append_cases f.before (subst (Memᴰ x) f.stands h))
  where
    here : (x ≡ m) ⊎ Memᴰ x f.behind → x.priority ≤ m.priority
    here (inl e) = let same : x.priority ≡ m.priority = ap (λ (y : Message). y.priority) e in omega arith
    here (inr k) = f.none_higher_behind x k t

    go : Memᴰ x f.before ⊎ Memᴰ x (m ∷ f.behind) → x.priority ≤ m.priority
    go (inl i) = let r : x.priority < m.priority = f.lower_before x i t in omega arith
    go (inr i) = here (Memᴰ.cases_cons i)

-- ---- a station

waiting_fits : (f : Option ℕ) (m : Message) → flies f m ≡ false → fits (AnyWaiting f) m ≡ true
unfolding fits
waiting_fits f m e = ap not e

fits_waiting : (f : Option ℕ) (m : Message) → fits (AnyWaiting f) m ≡ true → flies f m ≡ false
unfolding fits
fits_waiting f m e = not-true _ e

-- its head, if it has one, is a message that waits
pub head_waits : (b : Bench) (p : ℕ) (h : Message) → head (station_at b p) ≡ Some h → Waits b p h
head_waits b p h e =
    let s : Station = station_at b p in
    let f = (head_is_first s).first h e in
    record { listed = standing f.before f.behind h (all s.sends) f.stands; rests = fits_waiting (flight (awaited_of s)) h f.fitting }

-- and it has one where a message waits, that is at least as high
pub waiting_head : (b : Bench) (p : ℕ) (m : Message) → Waits b p m
    → (h : Message) × (head (station_at b p) ≡ Some h) × (m.priority ≤ h.priority)
waiting_head b p m w = go (head s) refl
  where
    s : Station
    s = station_at b p

    suits : fits (AnyWaiting (flight (awaited_of s))) m ≡ true
    suits = waiting_fits (flight (awaited_of s)) m w.rests

    go : (o : Option Message) → head s ≡ o → (h : Message) × (head s ≡ Some h) × (m.priority ≤ h.priority)
    go (Some h) e = (h, e, none_higher (AnyWaiting (flight (awaited_of s))) (all s.sends) h ((head_is_first s).first h e) m w.listed suits)
    go None e = absurd (false≢true (sym ((head_is_first s).none_fits e m w.listed) ∙ suits))

-- a whole station's messages have a priority
pub listed_priority : (s : Station) → WholeStation s → (m : Message) → Memᴰ m (all s.sends) → 1 ≤ m.priority
listed_priority s w m h =
    let k = whole_sound s w in
    let good : message_good s.n s.own m ≡ true = each_member (message_good s.n s.own) h (list_messages s.n s.own s.sends k.sends) in
    let some : m.priority ≡ 0 → ⊥ = (good_message s.n s.own m good).some_priority in
    omega (arith, some)

-- ---- the ring

module _ {limit : ℕ} (b : Bench) (q : Quiet limit b) (x : Spot) (m : Message) (member : x.station < b.n) (at : m.place ≡ x.place) (w : Waits b x.station m) (top : OnTop x m.priority b) where
  some : 1 ≤ m.priority
  some = listed_priority (station_at b x.station) (q.picture.members x.station member).whole m w.listed

  own_is : head (station_at b x.station) ≡ Some m
  own_is = go (eqb h.place x.place) refl
    where
      s : Station
      s = station_at b x.station

      h : Message
      h = (waiting_head b x.station m w).0

      has : head s ≡ Some h
      has = (waiting_head b x.station m w).1

      go : (t : Bool) → eqb h.place x.place ≡ t → head s ≡ Some m
      go true e =
          let k = whole_sound s (q.picture.members x.station member).whole in
          let same : h ≡ m =
          one_place (all s.sends) (list_apart s.n s.own s.sends k.sends) h m (head_waits b x.station h has).listed w.listed
          (eqb-true h.place x.place e ∙ sym at) in
          has ∙ ap (λ (y : Message). Some y) same
      go false e =
          let less : h.priority < m.priority = top x.station member h (head_waits b x.station h has) (λ y. eqb-false h.place x.place e y.1) in
          absurd (omega (arith, (waiting_head b x.station m w).2))

  lower_is : (p : ℕ) → p < b.n → (p ≡ x.station → ⊥) → priority_of (head (station_at b p)) < m.priority
  lower_is p h o = go (head (station_at b p)) refl
    where
      go : (t : Option Message) → head (station_at b p) ≡ t → priority_of t < m.priority
      go (Some k) e = top p h k (head_waits b p k e) (λ y. o y.0)
      go None e = omega (arith, some)

  pub tops : Tops b.n (λ (p : ℕ). head (station_at b p)) x.station m
  tops = record { member = member; some_priority = some; own_head = own_is; lower = lower_is }
