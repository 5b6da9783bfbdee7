-- What a record leaves of each live set: all but those that its lines say were struck. Assumes nothing.
use mathlib.Core.Path.{◌≡◌, refl, sym, ap, subst, ◌∙◌}
use mathlib.Core.Bool.{Bool, true, false, not, ◌&&◌}
use mathlib.Core.List.{List, [], ◌∷◌, ◌++◌}
use Prim.Native.Nat.{ℕ, ◌<◌, ◌≤◌}
use native.Mathlib.Nat.{zero-add}
use native.Mathlib.Omega.{arith}
use lib.Dec.{eqb}
use lib.ListN.{length}
use borrow.Author.Tests.{eqb-true, eqb-false}
use Rattle.parts.specs.Live.{live_at}
use Rattle.parts.specs.declared.request.Request.{Request}
use Rattle.station.specs.Queue.{queue_rule}
use Rattle.station.specs.declared.station.Station.{Station}
use Rattle.station.specs.declared.station.Answer.{Answer}
use Rattle.station_theorems.proofs.Theorems.Striking.{timer_strikes}
use Rattle.station_theorems.proofs.Theorems.NobodyStruck.{queue_strikes_nobody}
use Rattle.bench.specs.Rows.{row_on}
use Rattle.capture.specs.declared.record.Event.{Event}
use Rattle.capture.specs.declared.record.Event.TheVariants.{Delivered, LostForAddressee, LostForAll, Timer, Queue}
use Rattle.day.specs.declared.wire.Flying.{Flying}
use Rattle.day.specs.Day.{Day, member_at}
use Rattle.day.specs.Records.{hearers, answer_of, reply_to, after_frame, take_frame, after_call, timer_answer, after_record}
use Rattle.replay_theorems.specs.Lines.{Line, queued, struck_line, sent_lines, struck_lines, taken_lines, timer_lines, record_lines}
use Rattle.replay_theorems.specs.Strikes.{struck_by}
use Rattle.replay_theorems.specs.WholeDay.{WholeDay}
use Rattle.replay_theorems.proofs.Laws.Handing.{frame_at, call_here, call_other}
use Rattle.replay_theorems.proofs.Laws.Striking.{and-true, none_says, sent_behind, other_says, queued_says, nobody_says, LiveLeft, strikes_leave, nobody_leaves, handed_leaves, handed_says}

-- from a day to the next the station at q strikes from its live set those of whom the lines say so
abbrev pub Left : ℕ → Day → Day → List Line → Type 0
Left q d c ls = (p : ℕ) → live_at (member_at c q).live p ≡ (live_at (member_at d q).live p && not (struck_by p q ls))

module _ {n limit : ℕ} {d : Day} (w : WholeDay n limit d) (most : n ≤ 64) (q : ℕ) (h : q < n) where
  in_table : q < length d.stations
  in_table = omega (arith, w.table)

  -- the same station, and no line of it
  same_left : (c : Day) (ls : List Line) → member_at c q ≡ member_at d q → ((p : ℕ) → struck_by p q ls ≡ false) → Left q d c ls
  same_left c ls e o p =
      ap (λ (s : Station). live_at s.live p) e
      ∙ sym (ap (λ (b : Bool). live_at (member_at d q).live p && not b) (o p) ∙ and-true (live_at (member_at d q).live p))

  -- the station of an answer, and the answer's line
  answer_left : (c : Day) (ls : List Line) (a : Answer) → LiveLeft (member_at d q) a → member_at c q ≡ a.station
      → ((p : ℕ) → struck_by p q ls ≡ struck_by p q (struck_line a.struck q)) → Left q d c ls
  answer_left c ls a l e o p =
      ap (λ (s : Station). live_at s.live p) e
      ∙ l p q
      ∙ sym (ap (λ (b : Bool). live_at (member_at d q).live p && not b) (o p))

  frame_left : (hears : ℕ → Bool) (f : Flying) (rest : List Flying)
      → Left q d (after_frame hears d f rest)
      (struck_lines d.n hears f.frame f.from f.to 0 d.stations ++ sent_lines (row_on f.to (reply_to hears d f)))
  frame_left hears f rest =
      let lines : List Line = struck_lines d.n hears f.frame f.from f.to 0 d.stations in
      answer_left (after_frame hears d f rest) (lines ++ sent_lines (row_on f.to (reply_to hears d f))) (answer_of hears d f q)
      (handed_leaves d.n hears f.frame f.from f.to q (member_at d q)) (frame_at hears d f rest q in_table)
      (λ p.
      sent_behind p q lines (row_on f.to (reply_to hears d f))
      ∙ handed_says d.n hears f.frame f.from f.to p 0 q d.stations q (sym (zero-add q)) in_table)

  taken_left : (e : Event) → Left q d (take_frame e d d.wire) (taken_lines e d d.wire)
  unfolding take_frame taken_lines
  taken_left e = go d.wire
    where
      go : (wire : List Flying) → Left q d (take_frame e d wire) (taken_lines e d wire)
      go [] = same_left d [] refl (λ p. none_says p q)
      go (f ∷ rest) = frame_left (hearers e f) f rest

  call_left : (i : ℕ) (a : Answer) (ls : List Line) → LiveLeft (member_at d i) a
      → ((p : ℕ) → struck_by p q ls ≡ struck_by p q (struck_line a.struck i)) → Left q d (after_call d i a) ls
  call_left i a ls l o = go (eqb q i) refl
    where
      go : (t : Bool) → eqb q i ≡ t → Left q d (after_call d i a) ls
      go true x =
          let same : i ≡ q = sym (eqb-true q i x) in
          let here : member_at (after_call d i a) q ≡ a.station =
          ap (λ (j : ℕ). member_at (after_call d i a) j) (sym same) ∙ call_here d i a (omega (arith, in_table)) in
          answer_left (after_call d i a) ls a (subst (λ (j : ℕ). LiveLeft (member_at d j) a) same l) here
          (λ p. o p ∙ ap (λ (j : ℕ). struck_by p q (struck_line a.struck j)) same)
      go false x =
          same_left (after_call d i a) ls (call_other d i a q (eqb-false q i x)) (λ p. o p ∙ other_says p q a.struck i (eqb-false q i x))

  timer_left : (i : ℕ) → Left q d (after_call d i (timer_answer d i)) (timer_lines i (timer_answer d i))
  unfolding timer_lines
  timer_left i =
      let a : Answer = timer_answer d i in
      call_left i a (struck_line a.struck i ++ sent_lines (row_on i a.sent)) (strikes_leave (member_at d i) a _ (timer_strikes (member_at d i)))
      (λ p. sent_behind p q (struck_line a.struck i) (row_on i a.sent))

  queue_left : (i : ℕ) (r : Request) → Left q d (after_call d i (queue_rule (member_at d i) r)) (queued (queue_rule (member_at d i) r).number ∷ [])
  queue_left i r =
      let k = queue_strikes_nobody (member_at d i) r in
      call_left i (queue_rule (member_at d i) r) (queued (queue_rule (member_at d i) r).number ∷ []) (nobody_leaves (member_at d i) _ k)
      (λ p. queued_says p q (queue_rule (member_at d i) r).number ∙ sym (nobody_says p q _ i k.nobody_struck))

  pub record_left : (e : Event) → Left q d (after_record d e) (record_lines d e)
  unfolding after_record record_lines
  record_left Delivered = taken_left Delivered
  record_left LostForAddressee = taken_left LostForAddressee
  record_left LostForAll = taken_left LostForAll
  record_left (Timer i) = timer_left i
  record_left (Queue i r) = queue_left i r
