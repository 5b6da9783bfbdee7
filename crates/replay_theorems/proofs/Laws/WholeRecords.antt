-- A record leaves a whole day. Assumes nothing.
use mathlib.Core.Path.{◌≡◌, refl, sym, ap, subst, ◌∙◌}
use mathlib.Core.Bool.{Bool, true, false, ◌&&◌}
use mathlib.Core.List.Memᴰ
use mathlib.Core.List.{List, [], ◌∷◌, ◌++◌, Memᴰ}
use mathlib.Core.Logic.{◌⊎◌, inl, inr}
use Prim.Native.Nat.{ℕ, ◌<◌, ◌≤◌}
use native.Mathlib.Omega.{arith}
use lib.Dec.{eqb, leb, ltb}
use lib.ListN.{length, length-append, get_or-eq_default}
use borrow.Author.Tests.{ltb-true, ltb-false, eqb-true, eqb-false, leb-false}
use Rattle.parts.specs.Choose.{pick}
use Rattle.station.specs.Stations.{moved}
use Rattle.station.specs.Queue.{queue_rule}
use Rattle.station.specs.Timer.{timer_rule}
use Rattle.parts.specs.Frames.{Dispatch}
use Rattle.std.specs.Prelude.{None, Some}
use Rattle.parts.specs.declared.request.Request.{Request}
use Rattle.station.specs.declared.station.Station.{Station}
use Rattle.station.specs.declared.station.Answer.{Answer}
use Rattle.station_theorems.specs.Shaped.{WholeStation}
use Rattle.station_theorems.proofs.Theorems.Reached.{calls_keep_whole}
use Rattle.bench.specs.Ring.{nobody}
use Rattle.bench.specs.Bystander.{Untouched}
use Rattle.bench.specs.Delivery.{is_sent}
use Rattle.bench.proofs.Laws.Delivered.{handed_outside}
use Rattle.capture.specs.declared.record.Event.{Event}
use Rattle.capture.specs.declared.record.Event.TheVariants.{Delivered, LostForAddressee, LostForAll, Timer, Queue}
use Rattle.day.specs.declared.wire.Flying.{Flying}
use Rattle.day.specs.Day.{Day, most_frames, member_at, joining}
use Rattle.day.specs.Records.{hearers, answer_of, reply_to, after_frame, take_frame, after_call, timer_answer, after_record, event_number}
use Rattle.replay_theorems.specs.WholeDay.{MemberOf, Proper, WholeDay}
use Rattle.replay_theorems.proofs.Laws.Placed.{Placed, timer_placed, queue_placed, queue_silent}
use Rattle.replay_theorems.proofs.Laws.Handing.{frame_length, frame_at, frame_wire, call_length, call_here, call_other, call_wire, member_after, member_handed, joining_proper, joining_few, none_joins}

past_table : (d : Day) → length d.stations ≡ 64 → (p : ℕ) → 64 ≤ p → member_at d p ≡ nobody
past_table d e p h = get_or-eq_default d.stations nobody {n = p} (omega arith)

-- ---- a frame record

module _ {n limit : ℕ} {d : Day} (w : WholeDay n limit d) (most : n ≤ 64) where
  in_table : (p : ℕ) → p < n → p < length d.stations
  in_table p h = omega (arith, w.table)

  module _ (hears : ℕ → Bool) (f : Flying) (rest : List Flying) (e : d.wire ≡ f ∷ rest) where
    proper : Proper n f
    proper = w.on_wire f (subst (Memᴰ f) (sym e) (Memᴰ.head refl))

    later_length : length (after_frame hears d f rest).stations ≡ 64
    later_length = frame_length hears d f rest ∙ w.table

    later_member : (p : ℕ) → p < n → MemberOf n limit p (member_at (after_frame hears d f rest) p)
    later_member p h =
        subst (MemberOf n limit p) (sym (frame_at hears d f rest p (in_table p h)))
        (member_handed (w.members p h) d.n hears f.frame f.from f.to p proper.fits).0

    later_past : (p : ℕ) → n ≤ p → member_at (after_frame hears d f rest) p ≡ nobody
    later_past p o = go (ltb p 64) refl
      where
        go : (t : Bool) → ltb p 64 ≡ t → member_at (after_frame hears d f rest) p ≡ nobody
        go true x =
            frame_at hears d f rest p (omega (arith, w.table, ltb-true p 64 x))
            ∙ ap (λ (a : Answer). a.station) (handed_outside d.n hears f.frame f.from f.to p (member_at d p) (omega (arith, w.size)))
            ∙ w.nobody_past p o
        go false x = past_table (after_frame hears d f rest) later_length p (ltb-false p 64 x)

    later_wire : (g : Flying) → Memᴰ g (after_frame hears d f rest).wire → Proper n g
    later_wire g i = go (Memᴰ.append_cases rest (subst (Memᴰ g) (frame_wire hears d f rest) i))
      where
        answers : MemberOf n limit f.to (answer_of hears d f f.to).station × Placed (member_at d f.to) (answer_of hears d f f.to)
        answers = member_handed (w.members f.to proper.addressee) d.n hears f.frame f.from f.to f.to proper.fits

        go : Memᴰ g rest ⊎ Memᴰ g (joining f.to (reply_to hears d f)) → Proper n g
        go (inl j) = w.on_wire g (subst (Memᴰ g) (sym e) (Memᴰ.tail j))
        go (inr j) = joining_proper proper.addressee answers.1 answers.0 g j

    later_few : length (after_frame hears d f rest).wire ≤ most_frames
    later_few =
        omega (
          arith,
          ap length (frame_wire hears d f rest),
          length-append rest (joining f.to (reply_to hears d f)),
          joining_few f.to (reply_to hears d f),
          ap length e,
          w.never_more,
        )

    later_size : (after_frame hears d f rest).n ≡ n
    unfolding after_frame
    later_size = w.size

    pub frame_whole : WholeDay n limit (after_frame hears d f rest)
    frame_whole =
        record {
          size = later_size;
          table = later_length;
          members = later_member;
          nobody_past = later_past;
          on_wire = later_wire;
          never_more = later_few;
        }

  pub taken_whole : (e : Event) → WholeDay n limit (take_frame e d d.wire)
  unfolding take_frame
  taken_whole e = go d.wire refl
    where
      go : (wire : List Flying) → d.wire ≡ wire → WholeDay n limit (take_frame e d wire)
      go [] x = w
      go (f ∷ rest) x = frame_whole (hearers e f) f rest x

  -- ---- a call of the station at p

  module _
      (p : ℕ) (a : Answer) (placed : Placed (member_at d p) a) (whole : p < n → WholeStation a.station)
      (outside : n ≤ p → Untouched (member_at d p) a) (room : length (d.wire ++ joining p a.sent) ≤ most_frames)
    where
      here : p < n → MemberOf n limit p a.station
      here h = member_after (w.members p h) placed (whole h)

      called_length : length (after_call d p a).stations ≡ 64
      called_length = call_length d p a ∙ w.table

      called_member : (q : ℕ) → q < n → MemberOf n limit q (member_at (after_call d p a) q)
      called_member q h = go (eqb q p) refl
        where
          go : (t : Bool) → eqb q p ≡ t → MemberOf n limit q (member_at (after_call d p a) q)
          go true x =
              let same : q ≡ p = eqb-true q p x in
              let inside : p < n = omega arith in
              subst (λ (i : ℕ). MemberOf n limit i (member_at (after_call d p a) i)) (sym same)
              (subst (MemberOf n limit p) (sym (call_here d p a (in_table p inside))) (here inside))
          go false x = subst (MemberOf n limit q) (sym (call_other d p a q (eqb-false q p x))) (w.members q h)

      called_past : (q : ℕ) → n ≤ q → member_at (after_call d p a) q ≡ nobody
      called_past q o = go (eqb q p) refl (ltb q 64) refl
        where
          go : (t : Bool) → eqb q p ≡ t → (u : Bool) → ltb q 64 ≡ u → member_at (after_call d p a) q ≡ nobody
          go false x u y = call_other d p a q (eqb-false q p x) ∙ w.nobody_past q o
          go true x false y = past_table (after_call d p a) called_length q (ltb-false q 64 y)
          go true x true y =
              let same : q ≡ p = eqb-true q p x in
              let past : n ≤ p = omega arith in
              ap (member_at (after_call d p a)) same
              ∙ call_here d p a (omega (arith, w.table, ltb-true q 64 y))
              ∙ (outside past).same
              ∙ w.nobody_past p past

      called_wire : (g : Flying) → Memᴰ g (after_call d p a).wire → Proper n g
      called_wire g i = go (Memᴰ.append_cases d.wire (subst (Memᴰ g) (call_wire d p a) i)) (ltb p n) refl
        where
          go : Memᴰ g d.wire ⊎ Memᴰ g (joining p a.sent) → (t : Bool) → ltb p n ≡ t → Proper n g
          go (inl j) t x = w.on_wire g j
          go (inr j) true x = let h : p < n = ltb-true p n x in joining_proper h placed (here h) g j
          go (inr j) false x =
              absurd (Memᴰ.not-nil (subst (Memᴰ g) (ap (joining p) (outside (ltb-false p n x)).silent ∙ none_joins p) j))

      called_size : (after_call d p a).n ≡ n
      unfolding after_call
      called_size = w.size

      pub call_whole : WholeDay n limit (after_call d p a)
      call_whole =
          record {
            size = called_size;
            table = called_length;
            members = called_member;
            nobody_past = called_past;
            on_wire = called_wire;
            never_more = omega (arith, ap length (call_wire d p a), room);
          }

-- ---- a timer, and a queue call

-- past the ring nobody has started
past_timer : Untouched nobody (timer_rule nobody)
unfolding nobody timer_rule moved pick
past_timer = record { same = refl; silent = refl }

past_queue : (q : Request) → Untouched nobody (queue_rule nobody q)
unfolding nobody queue_rule moved pick
past_queue q = record { same = refl; silent = refl }

-- a timer that is not refused finds room for what it sends
timer_room : (wire : List Flying) (p : ℕ) (sent : Dispatch) → length wire ≤ most_frames → pick {A = ℕ} (is_sent sent && leb most_frames (length wire)) 36 0 ≡ 0
    → length (wire ++ joining p sent) ≤ most_frames
unfolding joining pick
timer_room wire p None few z = omega (arith, length-append wire (joining p None))
timer_room wire p (Some (f, to)) few z = go (leb most_frames (length wire)) refl z
  where
    go : (t : Bool) → leb most_frames (length wire) ≡ t → pick {A = ℕ} t 36 0 ≡ 0 → length (wire ++ joining p (Some (f, to))) ≤ most_frames
    go true x y = absurd (omega arith)
    go false x y = omega (arith, length-append wire (joining p (Some (f, to))), leb-false most_frames (length wire) x)

queue_room : (wire : List Flying) (p : ℕ) (sent : Dispatch) → sent ≡ None → length wire ≤ most_frames → length (wire ++ joining p sent) ≤ most_frames
queue_room wire p sent e few = omega (arith, length-append wire (joining p sent), ap length (ap (joining p) e ∙ none_joins p))

pub record_whole : {n limit : ℕ} → n ≤ 64 → (d : Day) (e : Event) → event_number d e ≡ 0 → WholeDay n limit d → WholeDay n limit (after_record d e)
unfolding after_record event_number
record_whole most d Delivered z w = taken_whole w most Delivered
record_whole most d LostForAddressee z w = taken_whole w most LostForAddressee
record_whole most d LostForAll z w = taken_whole w most LostForAll
record_whole {n} most d (Timer p) z w =
    call_whole w most p (timer_answer d p) (timer_placed (member_at d p)) (λ h. (calls_keep_whole (member_at d p) (w.members p h).whole).timer)
    (λ o. subst (λ (s : Station). Untouched s (timer_rule s)) (sym (w.nobody_past p o)) past_timer)
    (timer_room d.wire p (timer_answer d p).sent w.never_more z)
record_whole {n} most d (Queue p q) z w =
    call_whole w most p (queue_rule (member_at d p) q) (queue_placed (member_at d p) q) (λ h. (calls_keep_whole (member_at d p) (w.members p h).whole).queue q)
    (λ o. subst (λ (s : Station). Untouched s (queue_rule s q)) (sym (w.nobody_past p o)) (past_queue q))
    (queue_room d.wire p _ (queue_silent (member_at d p) q) w.never_more)
