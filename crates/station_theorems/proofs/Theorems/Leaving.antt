-- A message leaves the send list only acknowledged or told as given up; what is told stood in it, and stands in it no longer. Said of each of
-- the five calls, for a station whose send list fits, as that of each whole station. Assumes nothing.
use mathlib.Core.Path.{◌≡◌, refl, sym, subst}
use mathlib.Core.Bool.{Bool, true, false, false≢true}
use mathlib.Core.List.Memᴰ
use mathlib.Core.List.{[], ◌∷◌, Memᴰ}
use mathlib.Core.Logic.{inl}
use Prim.Native.Nat.{ℕ, ◌≤◌}
use native.Mathlib.Omega.{arith}
use lib.Dec.{eqb}
use lib.ListN.{length, length-take}
use borrow.Author.Tests.{eqb-true}
use Rattle.parts.specs.Moves.{move_of, runs}
use Rattle.parts.specs.Live.{live_at}
use Rattle.parts.specs.Messages.{all, none, has_place}
use Rattle.station.specs.Stations.{state_of, answered, moved, unless}
use Rattle.station.specs.Start.{started, start_rule}
use Rattle.station.specs.Heard.{heard, frame_rule}
use Rattle.station.specs.Timer.{again, timer_rule}
use Rattle.station.specs.Queue.{new_message, accepted, queue_number, queue_rule}
use Rattle.station.specs.Take.{taking, take_rule}
use Rattle.wholeness.specs.Whole.{whole}
use Rattle.parts.specs.declared.moves.Event.{Event}
use Rattle.parts.specs.declared.moves.Event.TheVariants.{Start, Queue, Take}
use Rattle.parts.specs.declared.list.Message.{Message}
use Rattle.parts.specs.declared.request.Request.{Request}
use Rattle.std.specs.Prelude.{Option, None}
use Rattle.parts.specs.declared.frame.Frame.{Frame}
use Rattle.station.specs.declared.station.Station.{Station}
use Rattle.station.specs.declared.station.Answer.{Answer}
use Rattle.station_theorems.specs.Leaving.{SendsFit, LeaveOnly, Acknowledged, KeepsSends, Joins}
use Rattle.station_theorems.specs.Shaped.{Shaped}
use Rattle.station_theorems.specs.Leaves.{flying, Leaves, AnswerLeaves}
use Rattle.station_theorems.proofs.Laws.Telling.{pick_either}
use Rattle.station_theorems.proofs.Laws.Told.{either_frame, either_timer}
use Rattle.station.proofs.Laws.Moved.{moved_runs, unless_passes}
use Rattle.station.proofs.Laws.Heard.{frame_runs}
use Rattle.parts.proofs.Laws.Queue.{queue_good}
use Rattle.station_theorems.proofs.Laws.Kept.{list_short, list_apart, push_all}
use Rattle.station_theorems.proofs.Laws.Places.{place_nobodys}
use Rattle.station_theorems.proofs.Laws.Sound.{sound}
use Rattle.station_theorems.proofs.Laws.Leaves.{leaves_none}
use Rattle.station_theorems.proofs.Laws.Landed.{heard_leaves, last_leaves}
use Rattle.station_theorems.proofs.Laws.Fates.{frees, landed_frees, one_of_told, one_of_old}

-- ---- a send list that fits: an array of 16, at most 16 messages, each with its own place

pub whole_fits : (s : Station) → Shaped s → whole s ≡ true → SendsFit s
whole_fits s h w =
    let k = sound s h w in
    record { array = h.sends; most = list_short s.n s.own s.sends k.sends; places = list_apart s.n s.own s.sends k.sends }

pub few : (s : Station) → SendsFit s → length (all s.sends) ≤ 16
few s h = omega (arith, length-take s.sends.len s.sends.items, h.most)

-- ---- who leaves

-- by what leaves
leave_only : (s : Station) → SendsFit s → (a : Answer) (w : Option ℕ) (flew landed : Bool) → AnswerLeaves s w flew landed a
    → (acked : Type 0) → (landed ≡ true → acked) → LeaveOnly s a acked
leave_only s fit a w flew landed k acked why =
    record {
      stays_or_told = one_of_old s fit.places a w flew landed k acked why;
      told_stood = λ m h. (one_of_told s fit.places a w flew landed k m h).0;
      told_left = λ m h i. place_nobodys (all a.station.sends) m.place (free m h) m i refl;
      told_place_free = free;
    }
  where
    free : (m : Message) → Memᴰ m (all a.gone) → has_place (all a.station.sends) m.place ≡ false
    free m h = let r = one_of_told s fit.places a w flew landed k m h in frees s fit.places a w flew landed k m r.0 r.1

-- where the send list is kept, and none is told
kept : (s : Station) → SendsFit s → (acked : Type 0) (a : Answer) → a.station.sends ≡ s.sends → a.gone ≡ none → LeaveOnly s a acked
kept s fit acked a e g =
    leave_only s fit a None false false (subst (λ l. Leaves s a.station l None false false) (sym g) (leaves_none s a.station e)) acked (λ z. absurd (false≢true z))

-- ---- a heard frame: the one in flight leaves where the frame is heard, passes the checks and acknowledges the station

pub frame_leaves_only : (s : Station) → SendsFit s → (f : Frame) (from to : ℕ) → LeaveOnly s (frame_rule s f from to) (Acknowledged s f from to)
frame_leaves_only s fit f from to =
    let acked : Type 0 = Acknowledged s f from to in
    either_frame (λ a. LeaveOnly s a acked) s (λ n. kept s fit acked (answered s n) refl refl) f from to
    (λ r c. leave_only s fit (heard s f from to) _ _ _ (heard_leaves s fit.places (few s fit) f from to) acked
    (λ e. record { hears = r; passed = c; answers = e }))

-- it leaves indeed, and its place is free
pub acknowledged_leaves : (s : Station) → SendsFit s → (f : Frame) (from to : ℕ) → Acknowledged s f from to → (m : Message) → Memᴰ m (all s.sends)
    → flying s m ≡ true → has_place (all (frame_rule s f from to).station.sends) m.place ≡ false
acknowledged_leaves s fit f from to h m i e =
    rw (frame_runs s f from to h.hears h.passed)
    (landed_frees s fit.places (heard s f from to) _ _ _ (heard_leaves s fit.places (few s fit) f from to) h.answers m i e)

-- ---- the other calls: nothing is acknowledged

pub timer_leaves_only : (s : Station) → SendsFit s → LeaveOnly s (timer_rule s) ⊥
timer_leaves_only s fit =
    either_timer (λ a. LeaveOnly s a ⊥) s (λ n. kept s fit ⊥ (answered s n) refl refl) (kept s fit ⊥ (again s) refl refl)
    (λ f to w e l. leave_only s fit _ _ _ _ (last_leaves s fit.places (few s fit) to f) ⊥ (λ z. absurd (false≢true z)))

-- what holds of a number alone, and of what a call does, holds of the call
module _ (P : Answer → Type 0) (s : Station) (alone-holds : (n : ℕ) → P (answered s n)) where
  either_moved : (e : Event) (a : Answer) → P a → P (moved s e a)
  unfolding moved
  either_moved e a h = pick_either P (eqb (move_of (state_of s) e) runs) a _ (λ t. h) (λ t. alone-holds _)

  either_unless : (number : ℕ) (a : Answer) → (number ≡ 0 → P a) → P (unless s number a)
  unfolding unless
  either_unless number a h = pick_either P (eqb number 0) a _ (λ t. h (eqb-true number 0 t)) (λ t. alone-holds _)

number_keeps : (s : Station) (n : ℕ) → KeepsSends s (answered s n)
number_keeps s n = record { sends_same = refl; none_told = refl }

pub start_keeps : (s : Station) → KeepsSends s (start_rule s)
unfolding start_rule started
start_keeps s =
    either_moved (KeepsSends s) s (number_keeps s) Start _
    (pick_either (KeepsSends s) (eqb s.own 0) _ _ (λ h. record { sends_same = refl; none_told = refl }) (λ h. record { sends_same = refl; none_told = refl }))

pub take_keeps : (s : Station) (channel room : ℕ) → KeepsSends s (take_rule s channel room)
unfolding take_rule taking
take_keeps s channel room =
    either_moved (KeepsSends s) s (number_keeps s) Take _
    (either_unless (KeepsSends s) s (number_keeps s) _ _ (λ z. record { sends_same = refl; none_told = refl }))

pub start_leaves_only : (s : Station) → SendsFit s → LeaveOnly s (start_rule s) ⊥
start_leaves_only s fit = let k = start_keeps s in kept s fit ⊥ (start_rule s) k.sends_same k.none_told

pub take_leaves_only : (s : Station) → SendsFit s → (channel room : ℕ) → LeaveOnly s (take_rule s channel room) ⊥
take_leaves_only s fit channel room = let k = take_keeps s channel room in kept s fit ⊥ (take_rule s channel room) k.sends_same k.none_told

-- ---- queue: an accepted message joins at the end

module _ (s : Station) (fit : SendsFit s) (q : Request) where
  accepted_joins : queue_number s q ≡ 0 → Joins s (new_message s q) (accepted s q)
  unfolding accepted
  accepted_joins z =
      let g = queue_good s.n s.own (live_at s.live q.to) s.sends.len q z in
      record { joined = push_all s.sends (new_message s q) fit.array g.room; none_told = refl }

  pub queue_joins : move_of (state_of s) Queue ≡ runs → queue_number s q ≡ 0
      → Joins s (new_message s q) (queue_rule s q)
  unfolding queue_rule
  queue_joins r z =
      rw (moved_runs s Queue _ refl r, unless_passes s (queue_number s q) (accepted s q) refl z)
      (accepted_joins z)

  joins_only : (m : Message) (a : Answer) → Joins s m a → LeaveOnly s a ⊥
  joins_only m a k =
      record {
        stays_or_told = λ x h. inl (subst (Memᴰ x) (sym k.joined) (Memᴰ.append_left (m ∷ []) h));
        told_stood = λ x h. absurd (Memᴰ.not-nil (subst (Memᴰ x) k.none_told h));
        told_left = λ x h. absurd (Memᴰ.not-nil (subst (Memᴰ x) k.none_told h));
        told_place_free = λ x h. absurd (Memᴰ.not-nil (subst (Memᴰ x) k.none_told h));
      }

  pub queue_leaves_only : LeaveOnly s (queue_rule s q) ⊥
  unfolding queue_rule
  queue_leaves_only =
      let stops : (n : ℕ) → LeaveOnly s (answered s n) ⊥ = λ n. kept s fit ⊥ (answered s n) refl refl in
      either_moved (λ a. LeaveOnly s a ⊥) s stops Queue _ (either_unless (λ a. LeaveOnly s a ⊥) s stops _ _ (λ z. joins_only _ _ (accepted_joins z)))
