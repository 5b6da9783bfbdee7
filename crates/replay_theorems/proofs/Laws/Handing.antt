-- Laws of a day's calls, member by member. Assumes nothing.
use mathlib.Core.Path.{◌≡◌, refl, sym, ap, subst, ◌∙◌}
use mathlib.Core.Bool.{Bool, true}
use mathlib.Core.List.Memᴰ
use mathlib.Core.List.{List, [], ◌++◌, Memᴰ}
use Prim.Native.Nat.{ℕ, ◌<◌, ◌≤◌}
use native.Mathlib.Nat.{zero-add}
use native.Mathlib.Omega.{arith}
use lib.ListN.{length, length-set}
use lib.Seq.{get_or-set_same, get_or-set_other}
use borrow.Author.Tests.{ltb-true, eqb-false, not-true}
use Rattle.parts.specs.Frames.{fit, Dispatch}
use Rattle.station.specs.Stations.{state_of, awaited_of, answered}
use Rattle.station.specs.Heard.{frame_rule}
use Rattle.wholeness.specs.Whole.{awaited_good}
use Rattle.parts.specs.declared.frame.Frame.{Frame}
use Rattle.std.specs.Prelude.{None, Some}
use Rattle.station.specs.declared.station.Station.{Station}
use Rattle.station.specs.declared.station.Answer.{Answer}
use Rattle.parts.proofs.Laws.Tests.{held}
use Rattle.station_theorems.specs.Shaped.{WholeStation}
use Rattle.station_theorems.proofs.Laws.Sound.{whole_sound}
use Rattle.station_theorems.proofs.Laws.Small.{pick_keeps}
use Rattle.station_theorems.proofs.Theorems.FrameWhole.{frame_keeps_whole}
use Rattle.bench.specs.Ring.{nobody}
use Rattle.bench.specs.Delivery.{handed}
use Rattle.bench.proofs.Laws.Delivered.{delivered_length, delivered_at}
use Rattle.day.specs.declared.wire.Flying.{Flying}
use Rattle.day.specs.Day.{Day, member_at, joining}
use Rattle.day.specs.Records.{answer_of, reply_to, after_frame, after_call}
use Rattle.replay_theorems.specs.WholeDay.{MemberOf, Proper}
use Rattle.replay_theorems.proofs.Laws.Placed.{Placed, placed_answered, frame_placed}

-- ---- who is handed a frame answers by its rule, or nothing

pub handed_keeps : (P : Answer → Type 0) (n : ℕ) (hears : ℕ → Bool) (f : Frame) (from to p : ℕ) (s : Station)
    → P (frame_rule s f from to) → P (answered s 0) → P (handed n hears f from to p s)
unfolding handed
handed_keeps P n hears f from to p s a b = pick_keeps P _ _ _ a b

-- ---- the stations after a frame

module _ (hears : ℕ → Bool) (d : Day) (f : Flying) (rest : List Flying) where
  pub frame_length : length (after_frame hears d f rest).stations ≡ length d.stations
  unfolding after_frame
  frame_length = delivered_length d.n hears f.frame f.from f.to 0 d.stations

  pub frame_at : (p : ℕ) → p < length d.stations → member_at (after_frame hears d f rest) p ≡ (answer_of hears d f p).station
  unfolding after_frame
  frame_at p h =
      delivered_at d.n hears f.frame f.from f.to 0 p d.stations nobody h
      ∙ ap (λ (i : ℕ). (handed d.n hears f.frame f.from f.to i (member_at d p)).station) (zero-add p)

  pub frame_wire : (after_frame hears d f rest).wire ≡ rest ++ joining f.to (reply_to hears d f)
  unfolding after_frame
  frame_wire = refl

-- ---- the stations after a call of one

module _ (d : Day) (p : ℕ) (a : Answer) where
  pub call_length : length (after_call d p a).stations ≡ length d.stations
  unfolding after_call
  call_length = length-set d.stations p a.station

  pub call_here : p < length d.stations → member_at (after_call d p a) p ≡ a.station
  unfolding after_call
  call_here h = get_or-set_same d.stations p a.station nobody h

  pub call_other : (q : ℕ) → (q ≡ p → ⊥) → member_at (after_call d p a) q ≡ member_at d q
  unfolding after_call
  call_other q o = get_or-set_other d.stations p q a.station nobody o

  pub call_wire : (after_call d p a).wire ≡ d.wire ++ joining p a.sent
  unfolding after_call
  call_wire = refl

-- ---- a member

module _ {n limit p : ℕ} {s : Station} (m : MemberOf n limit p s) where
  -- after a call
  pub member_after : {a : Answer} → Placed s a → WholeStation a.station → MemberOf n limit p a.station
  member_after h w =
      record {
        same_n = h.seat.same_n ∙ m.same_n;
        same_limit = h.seat.same_limit ∙ m.same_limit;
        own = h.seat.same_own ∙ m.own;
        whole = w;
      }

  -- after a fit frame
  pub member_handed : (k : ℕ) (hears : ℕ → Bool) (f : Frame) (from to i : ℕ) → fit n f ≡ true
      → MemberOf n limit p (handed k hears f from to i s).station × Placed s (handed k hears f from to i s)
  member_handed k hears f from to i e =
      handed_keeps (λ (a : Answer). MemberOf n limit p a.station × Placed s a) k hears f from to i s (
        member_after (frame_placed s f from to) (frame_keeps_whole s f from to (ap (λ (j : ℕ). fit j f) m.same_n ∙ e) m.whole),
        frame_placed s f from to,
      )
      (m, placed_answered s 0)

  -- what it awaits is fit, and to another member
  good : {g : Frame} {to : ℕ} → awaited_of s ≡ Some (g, to) → awaited_good (state_of s) n p s.sends (Some (g, to)) ≡ true
  good e =
      subst (λ (d : Dispatch). awaited_good (state_of s) n p s.sends d ≡ true) e
      (subst (λ (i : ℕ). awaited_good (state_of s) n i s.sends (awaited_of s) ≡ true) m.own
      (subst (λ (i : ℕ). awaited_good (state_of s) i s.own s.sends (awaited_of s) ≡ true) m.same_n (whole_sound s m.whole).awaited))

  pub awaited_proper : p < n → (g : Frame) (to : ℕ) → awaited_of s ≡ Some (g, to) → Proper n (record { from = p; frame = g; to = to })
  unfolding awaited_good
  awaited_proper h g to e =
      let t = held _ (good e) in
      record { sender = h; addressee = ltb-true to n t.1.1.0; another = eqb-false to p (not-true _ t.1.1.1.0); fits = t.1.0 }

-- ---- what joins the wire

module _ {n limit p : ℕ} {s : Station} {a : Answer} (h : p < n) (placed : Placed s a) (m : MemberOf n limit p a.station) where
  pub joining_proper : (f : Flying) → Memᴰ f (joining p a.sent) → Proper n f
  unfolding joining
  joining_proper f = go a.sent refl
    where
      go : (d : Dispatch) → a.sent ≡ d → Memᴰ f (joining p d) → Proper n f
      go None e i = absurd (Memᴰ.not-nil i)
      go (Some (g, to)) e i = subst (Proper n) (sym (Memᴰ.eq_of_singleton i)) (awaited_proper m h g to (placed.awaits g to e))

pub joining_few : (p : ℕ) (d : Dispatch) → length (joining p d) ≤ 1
unfolding joining
joining_few p None = omega arith
joining_few p (Some (g, to)) = omega arith

pub none_joins : (p : ℕ) → joining p None ≡ []
unfolding joining
none_joins p = refl
