-- Laws of what a striking leaves of the live set, of the messages that it tells, and of what it does not touch. Assumes nothing.
use mathlib.Core.Path.{◌≡◌, refl, sym, ap, ◌∙◌}
use mathlib.Core.Bool.{Bool, true, false}
use mathlib.Core.List.{List, [], ◌∷◌, ◌++◌}
use Prim.Native.Nat.{ℕ, zero, suc, ◌+◌, ◌-◌, ◌≤◌}
use native.Mathlib.Omega.{arith}
use lib.ListN.{get_or, set, length, replicate, length-append, length-replicate, length-set, length-take}
use lib.Dec.{ltb, leb}
use borrow.Author.Tests.{ltb-true, le-leb}
use Rattle.parts.specs.Frames.{flight}
use Rattle.parts.specs.Choose.{pick}
use Rattle.parts.specs.Live.{live_at, without}
use Rattle.parts.specs.Messages.{all, none, blank, pack, pushed, split_by}
use Rattle.station.specs.Stations.{with_sends, add_up_to, awaited_of}
use Rattle.station.specs.Strike.{Loss, strike, nothing_gone, give_up_to, give_up_at, give_up_flight, told, message_at}
use Rattle.parts.specs.Live.{newly}
use Rattle.parts.specs.declared.live.Live.{Live}
use Rattle.parts.specs.declared.list.Message.{Message}
use Rattle.parts.specs.declared.list.Messages.{Messages}
use Rattle.std.specs.Prelude.{Option, None, Some}
use Rattle.station.specs.declared.station.Station.{Station}
use Rattle.parts.proofs.Laws.Choose.{pick_true, pick_false, map_or_keeps}

-- what holds of both choices holds of the one picked
pub pick_either : {A : Type 0} (P : A → Type 0) (b : Bool) (x y : A) → (b ≡ true → P x) → (b ≡ false → P y) → P (pick b x y)
unfolding pick
pick_either P true x y f g = f refl
pick_either P false x y f g = g refl

-- ---- the live set

set_same : (xs : List Bool) (p : ℕ) → get_or xs p false ≡ false → set xs p false ≡ xs
set_same [] p e = refl
set_same (x ∷ xs) zero e = ap (λ (b : Bool). b ∷ xs) (sym e)
set_same (x ∷ xs) (suc p) e = ap (λ (r : List Bool). x ∷ r) (set_same xs p e)

-- to strike a station that is not live changes nothing
pub without_struck : (l : Live) (p : ℕ) → live_at l p ≡ false → without l p ≡ l
without_struck l p e = ap (λ (xs : List Bool). let r : Live = record { on = xs } in r) (set_same l.on p e)

set_then : (xs : List Bool) (p : ℕ) → get_or (set xs p false) p false ≡ false
set_then [] p = refl
set_then (x ∷ xs) zero = refl
set_then (x ∷ xs) (suc p) = set_then xs p

-- a struck station is not live
pub struck_not_live : (l : Live) (p : ℕ) → live_at (without l p) p ≡ false
struck_not_live l p = set_then l.on p

-- ---- who is newly struck

pub newly_live : (l : Live) (p : ℕ) → live_at l p ≡ true → newly l p ≡ Some p
unfolding newly
newly_live l p e = pick_true _ _ e

pub newly_not : (l : Live) (p : ℕ) → live_at l p ≡ false → newly l p ≡ None
unfolding newly
newly_not l p e = pick_false _ _ e

-- ---- messages told: there are as many as the list's length says

pub record Roomy (l : Messages) : Type 0 where
  pub inside : l.len ≤ length l.items
  pub wide : 16 ≤ length l.items

pub roomy_length : (l : Messages) → Roomy l → length (all l) ≡ l.len
roomy_length l r = length-take l.len l.items ∙ omega (arith, r.inside)

pub roomy_none : Roomy none
roomy_none = record { inside = omega arith; wide = omega arith }

pub roomy_pack : (ms : List Message) → Roomy (pack ms)
unfolding pack
roomy_pack ms =
    let e : length (ms ++ replicate (16 - length ms) blank) ≡ length ms + (16 - length ms) =
    length-append ms (replicate (16 - length ms) blank) ∙ ap (λ (n : ℕ). length ms + n) (length-replicate (16 - length ms) blank) in
    record { inside = omega arith; wide = omega arith }

pub roomy_pushed : (l : Messages) (m : Message) → Roomy l → Roomy (pushed l m)
unfolding pushed
roomy_pushed l m r =
    let e : length (set l.items l.len m) ≡ length l.items = length-set l.items l.len m in
    pick_either Roomy (ltb l.len 16) (record { items = set l.items l.len m; len = l.len + 1 }) l
    (λ h. record { inside = omega (arith, ltb-true l.len 16 h, r.wide); wide = omega (arith, r.wide) })
    (λ h. r)

-- ---- giving up changes the send list only

pub gives_up_to : (s : Station) (p : ℕ) → (give_up_to s p).station ≡ with_sends s (give_up_to s p).station.sends
unfolding give_up_to
gives_up_to s p = refl

abbrev OnlySends : Station → Loss → Type 0
OnlySends s l = l.station ≡ with_sends s l.station.sends

gives_up_at : (l : Loss) (p : ℕ) → OnlySends l.station (give_up_at l p)
unfolding give_up_at
gives_up_at l p = map_or_keeps (OnlySends l.station) _ (message_at l.station p) l (λ m. refl) refl

pub gives_up_flight : (l : Loss) → (give_up_flight l).station ≡ with_sends l.station (give_up_flight l).station.sends
unfolding give_up_flight
gives_up_flight l = map_or_keeps (OnlySends l.station) _ (flight (awaited_of l.station)) l (λ p. gives_up_at l p) refl

pub roomy_to : (s : Station) (p : ℕ) → Roomy (give_up_to s p).gone
unfolding give_up_to split_by
roomy_to s p = roomy_pack _

abbrev RoomyLoss : Loss → Type 0
RoomyLoss l = Roomy l.gone

roomy_at : (l : Loss) (p : ℕ) → RoomyLoss l → RoomyLoss (give_up_at l p)
unfolding give_up_at
roomy_at l p r = map_or_keeps RoomyLoss _ (message_at l.station p) l (λ m. roomy_pushed _ _ r) r

pub roomy_flight : (l : Loss) → Roomy l.gone → Roomy (give_up_flight l).gone
unfolding give_up_flight
roomy_flight l r = map_or_keeps RoomyLoss _ (flight (awaited_of l.station)) l (λ p. roomy_at l p r) r

-- ---- the count

pub none_more : (c : ℕ) → add_up_to c 0 ≡ c
unfolding add_up_to
none_more c = pick_true _ _ (le-leb 0 (4294967295 - c) (omega arith)) ∙ omega arith

pub counts_all : (c k : ℕ) → c + k ≤ 4294967295 → add_up_to c k ≡ c + k
unfolding add_up_to
counts_all c k h = pick_true _ _ (le-leb k (4294967295 - c) (omega arith))

pub counts_stop : (c k : ℕ) → c ≤ 4294967295 → 4294967295 ≤ c + k → add_up_to c k ≡ 4294967295
unfolding add_up_to
counts_stop c k h i =
    pick_either (λ (n : ℕ). n ≡ 4294967295) (leb k (4294967295 - c)) (c + k) 4294967295
    (λ t. omega (arith, borrow.Author.Tests.leb-true k (4294967295 - c) t))
    (λ t. refl)

-- ---- what a call that strikes a station, or nobody, leaves and tells, from s to t

-- the live set without the struck station
abbrev pub left : Live → Option ℕ → Live
left l None = l
left l (Some p) = without l p

-- who is told: the struck station, if it was live
abbrev pub newly_of : Live → Option ℕ → Option ℕ
newly_of l None = None
newly_of l (Some p) = newly l p

pub record Tells (s t : Station) (w : Option ℕ) (gone : Messages) (struck : Option ℕ) : Type 0 where
  pub live_left : t.live ≡ left s.live struck
  pub told_is : w ≡ newly_of s.live struck
  pub counted_up : t.counts.givenup ≡ add_up_to s.counts.givenup gone.len
  pub listed : Roomy gone

-- two stations with the same live set and the same count
pub record Same (s t : Station) : Type 0 where
  pub live_same : t.live ≡ s.live
  pub count_same : t.counts.givenup ≡ s.counts.givenup

pub tells_none : (s t : Station) → Same s t → Tells s t None none None
tells_none s t e =
    record { live_left = e.live_same; told_is = refl; counted_up = e.count_same ∙ sym (none_more s.counts.givenup); listed = roomy_none }

-- steps before and after that touch neither the live set nor the count
pub tells_through : (s t u v : Station) (w : Option ℕ) (gone : Messages) (struck : Option ℕ) → Same s t → Tells t u w gone struck → Same u v → Tells s v w gone struck
tells_through s t u v w gone struck before k after =
    record {
      live_left = after.live_same ∙ k.live_left ∙ ap (λ (l : Live). left l struck) before.live_same;
      told_is = k.told_is ∙ ap (λ (l : Live). newly_of l struck) before.live_same;
      counted_up = after.count_same ∙ k.counted_up ∙ ap (λ (c : ℕ). add_up_to c gone.len) before.count_same;
      listed = k.listed;
    }

-- a station that has lost `p`, with nothing counted yet
pub record Lost (s : Station) (p : ℕ) (l : Loss) : Type 0 where
  pub live_lost : l.station.live ≡ without s.live p
  pub count_kept : l.station.counts.givenup ≡ s.counts.givenup
  pub gone_listed : Roomy l.gone

pub lost_itself : (s : Station) (p : ℕ) → Lost s p (nothing_gone (strike s p))
lost_itself s p = record { live_lost = refl; count_kept = refl; gone_listed = roomy_none }

pub lost_to : (s : Station) (p : ℕ) → Lost s p (give_up_to (strike s p) p)
lost_to s p =
    let e = gives_up_to (strike s p) p in
    record {
      live_lost = ap (λ (t : Station). t.live) e;
      count_kept = ap (λ (t : Station). t.counts.givenup) e;
      gone_listed = roomy_to (strike s p) p;
    }

lost_flight : (s : Station) (p : ℕ) (l : Loss) → Lost s p l → Lost s p (give_up_flight l)
lost_flight s p l h =
    let e = gives_up_flight l in
    record {
      live_lost = ap (λ (t : Station). t.live) e ∙ h.live_lost;
      count_kept = ap (λ (t : Station). t.counts.givenup) e ∙ h.count_kept;
      gone_listed = roomy_flight l h.gone_listed;
    }

-- the messages given up are counted and told
pub tells_told : (s : Station) (l : Loss) (p : ℕ) → Lost s p l → Tells s (told l (newly s.live p)).station (newly s.live p) l.gone (Some p)
tells_told s l p h =
    record {
      live_left = h.live_lost;
      told_is = refl;
      counted_up = ap (λ (n : ℕ). add_up_to n l.gone.len) h.count_kept;
      listed = h.gone_listed;
    }

-- with the message in flight given up too
pub tells_flight : (s : Station) (l : Loss) (p : ℕ) → Lost s p l
    → Tells s (told (give_up_flight l) (newly s.live p)).station (newly s.live p) (give_up_flight l).gone (Some p)
tells_flight s l p h = tells_told s (give_up_flight l) p (lost_flight s p l h)

-- ---- who is told was struck, and was live

member_of : Option ℕ → ℕ
member_of None = 0
member_of (Some p) = p

someone : Option ℕ → Bool
someone None = false
someone (Some p) = true

pub nobody_no_member : (p : ℕ) → None ≡ Some p → ⊥
unfolding someone
nobody_no_member p e = mathlib.Core.Bool.false≢true (ap someone e)

pub same_member : (p q : ℕ) → Some p ≡ Some q → p ≡ q
unfolding member_of
same_member p q e = ap member_of e

pub told_struck : (l : Live) (w : Option ℕ) (p : ℕ) → newly_of l w ≡ Some p → (w ≡ Some p) × (live_at l p ≡ true)
told_struck l None p e = absurd (nobody_no_member p e)
told_struck l (Some q) p e = go (live_at l q) refl
  where
    go : (b : Bool) → live_at l q ≡ b → (Some q ≡ Some p) × (live_at l p ≡ true)
    go true h =
        let same : Some q ≡ Some p = sym (newly_live l q h) ∙ e in
        (same, ap (live_at l) (sym (same_member q p same)) ∙ h)
    go false h = absurd (nobody_no_member p (sym (newly_not l q h) ∙ e))

-- where nobody is told, the live set stays
pub nobody_left : (l : Live) (w : Option ℕ) → newly_of l w ≡ None → left l w ≡ l
nobody_left l None e = refl
nobody_left l (Some p) e = go (live_at l p) refl
  where
    go : (b : Bool) → live_at l p ≡ b → without l p ≡ l
    go true h = absurd (nobody_no_member p (sym e ∙ newly_live l p h))
    go false h = without_struck l p h
