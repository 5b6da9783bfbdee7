-- A call with room for one record's lines goes on, or stops: so no more calls than the capture has octets end the run. Assumes nothing.
use mathlib.Core.Path.{◌≡◌, refl, sym, ap, subst, ◌∙◌}
use mathlib.Core.Bool.{Bool, true, false, false≢true}
use mathlib.Core.List.{List, [], ◌∷◌}
use Prim.Native.Nat.{ℕ, suc, ◌+◌, ◌-◌, ◌/◌, ◌^◌, ◌<◌, ◌≤◌}
use native.Mathlib.Omega.{arith}
use lib.Dec.{ltb, eqb}
use lib.ListN.{length}
use borrow.Author.Tests.{ltb-true, ltb-false, eq-eqb, eqb-true}
use Rattle.parts.specs.Choose.{pick}
use Rattle.parts.proofs.Laws.Choose.{pick_true, pick_false}
use Rattle.capture.specs.Record.{record_length, most_octets, read_record}
use Rattle.capture.specs.declared.record.Read.{Read}
use Rattle.capture.specs.declared.record.Read.TheVariants.{End}
use Rattle.capture.proofs.Laws.Reading.{read_end}
use Rattle.capture.proofs.Theorems.Numbers.{capture_passes}
use Rattle.replay.specs.Running.{longest}
use Rattle.replay.specs.Runs.{heard_from, Course, gone, refusal}
use Rattle.replay.specs.Replays.{course_of, is_end, is_over, turns_in, RanFrom}
use Rattle.replay.specs.declared.run.Replay.{Replay}
use Rattle.replay.specs.declared.run.Ran.{Ran}
use Rattle.replay.proofs.Theorems.Calls.{over_all}
use Rattle.replay.proofs.Laws.Running.{offset_zero}
use Rattle.replay_theorems.specs.Calls.{BegunFrom, RunCall, CallsFrom, left_by, AllRoomy}
use Rattle.replay_theorems.proofs.Laws.Offsets.{Further, gone_further, does_one}
use Rattle.replay_theorems.proofs.Theorems.EveryCapture.{capture_passed}

-- ---- whether it is over

module _ (r : Replay) (s : List ℕ) where
  abbrev reads : Read
  reads = read_record r.n s r.at

  not_over : is_over r s ≡ false → (r.number ≡ 0) × (reads ≡ End → ⊥)
  not_over o = go (eqb r.number 0) refl
    where
      go : (b : Bool) → eqb r.number 0 ≡ b → (r.number ≡ 0) × (reads ≡ End → ⊥)
      go true t = (eqb-true _ _ t, λ q. false≢true (sym o ∙ pick_true (is_end reads) true t ∙ ap is_end q))
      go false t = absurd (false≢true (sym o ∙ pick_false (is_end reads) true t))

  over_end : length s ≤ r.at → is_over r s ≡ true
  over_end h = go (eqb r.number 0) refl
    where
      go : (b : Bool) → eqb r.number 0 ≡ b → is_over r s ≡ true
      go true t = pick_true (is_end reads) true t ∙ ap is_end (sym (read_end r.n s r.at (omega arith)))
      go false t = pick_false (is_end reads) true t

  -- a record is left
  some_left : (reads ≡ End → ⊥) → r.at + record_length ≤ length s
  some_left more = go (ltb (length s) (r.at + record_length)) refl
    where
      go : (b : Bool) → ltb (length s) (r.at + record_length) ≡ b → r.at + record_length ≤ length s
      go true t = absurd (more (sym (read_end r.n s r.at (ltb-true _ _ t))))
      go false t = ltb-false _ _ t

-- ---- one call

some_turns : (room done : ℕ) → longest ≤ room → done < 2 ^ 63 → 0 < turns_in room done
unfolding turns_in
some_turns room done h c = go (ltb (room / longest) (2 ^ 63 - done)) refl
  where
    go : (b : Bool) → ltb (room / longest) (2 ^ 63 - done) ≡ b → 0 < pick (ltb (room / longest) (2 ^ 63 - done)) (room / longest) (2 ^ 63 - done)
    go true t = omega (arith, pick_true (room / longest) (2 ^ 63 - done) t, h)
    go false t = omega (arith, pick_false (room / longest) (2 ^ 63 - done) t, c)

module _ (r : Replay) (s out₀ : List ℕ) (at : ℕ) (a : Ran) (out : List ℕ) (h : RanFrom r s out₀ at a out) where
  abbrev turns : ℕ
  turns = turns_in (length out₀ - at) r.done

  -- no record is undone, and it is as many octets further as it has done records, at least
  call_further : (r.done ≤ a.replay.done) × (r.at + (a.replay.done - r.done) ≤ a.replay.at)
  call_further =
      let f : Further r.n s r.at r.done a.replay.done =
      subst (λ (c : Course). Further r.n s r.at r.done c.done) (sym h.course) (gone_further r.n r.channels s turns (course_of r) r.at) in
      (f.0, omega (arith, f.1, h.offset))

  pub call_goes_on : longest ≤ length out₀ - at → r.done < 2 ^ 63 → is_over r s ≡ false → a.replay.number ≡ 0 → r.at < a.replay.at
  call_goes_on room counted on going =
      let some : 0 < turns = some_turns (length out₀ - at) r.done room counted in
      let one : turns ≡ suc (turns - 1) = omega (arith, some) in
      let leaves : course_of a.replay ≡ gone (course_of r) (heard_from r.n r.channels (suc (turns - 1)) s r.at) =
      h.course ∙ ap (λ (k : ℕ). gone (course_of r) (heard_from r.n r.channels k s r.at)) one in
      let begins = not_over r s on in
      let more = does_one r.n r.channels s (turns - 1) (course_of r) r.at begins.0 begins.1 (ap (λ (c : Course). c.number) (sym leaves) ∙ going) in
      omega (arith, more, ap (λ (c : Course). c.done) leaves, call_further.1)

  -- where it was over, it is
  over_stays : is_over r s ≡ true → is_over a.replay s ≡ true
  over_stays ends =
      let same : course_of a.replay ≡ course_of r = h.course ∙ (over_all r s ends turns).0 in
      let here : a.replay.at ≡ r.at =
      h.offset ∙ offset_zero (a.replay.done - r.done) r.n s r.at (omega (arith, ap (λ (c : Course). c.done) same)) in
      ap (λ (c : Course). pick (eqb c.number 0) (is_end (read_record c.day.n s a.replay.at)) true) same
      ∙ ap (λ (i : ℕ). pick (eqb r.number 0) (is_end (read_record r.n s i)) true) here
      ∙ ends

-- ---- one after the other

module _ (s : List ℕ) where
  over_left : (cs : List RunCall) (r : Replay) → CallsFrom r s cs → is_over r s ≡ true → is_over (left_by r cs) s ≡ true
  over_left [] r h ends = ends
  over_left (c ∷ cs) r h ends = over_left cs c.ran.replay h.1 (over_stays r s c.before c.at c.ran c.behind h.0 ends)

  ends_in : length s < 2 ^ 63 → (cs : List RunCall) (r : Replay) → CallsFrom r s cs → AllRoomy cs → r.done ≤ r.at → length s ≤ r.at + length cs
      → is_over (left_by r cs) s ≡ true
  ends_in small [] r h room counted enough = over_end r s (omega arith)
  ends_in small (c ∷ cs) r h room counted enough = go (is_over r s) refl (ends_in small cs c.ran.replay h.1 room.1)
    where
      Rest : Type 0
      Rest = c.ran.replay.done ≤ c.ran.replay.at → length s ≤ c.ran.replay.at + length cs → is_over (left_by c.ran.replay cs) s ≡ true

      on : is_over r s ≡ false → (b : Bool) → eqb c.ran.replay.number 0 ≡ b → Rest → is_over (left_by c.ran.replay cs) s ≡ true
      on o true t more =
          let f = call_further r s c.before c.at c.ran c.behind h.0 in
          let left = some_left r s (not_over r s o).1 in
          let further = call_goes_on r s c.before c.at c.ran c.behind h.0 room.0 (omega (arith, left, counted, small)) o (eqb-true _ _ t) in
          more (omega (arith, f.0, f.1, counted)) (omega (arith, enough, further))
      on o false t more = over_left cs c.ran.replay h.1 (pick_false (is_end (read_record c.ran.replay.n s c.ran.replay.at)) true t)

      go : (b : Bool) → is_over r s ≡ b → Rest → is_over (left_by c.ran.replay cs) s ≡ true
      go true t more = over_left (c ∷ cs) r h t
      go false t more = on t (eqb c.ran.replay.number 0) refl more

-- as many calls as the capture has octets, each with room for one record's lines
pub calls_end : (file s : List ℕ) → refusal file s ≡ 0 → (r : Replay) → BegunFrom file s r → (cs : List RunCall) → CallsFrom r s cs → AllRoomy cs
    → length s ≤ length cs → is_over (left_by r cs) s ≡ true
calls_end file s good r b cs h room enough =
    let most : length s ≤ most_octets = (capture_passes s (capture_passed file s good)).1 in
    let none : r.done ≡ 0 = ap (λ (c : Course). c.done) (b.course ∙ pick_true _ _ (eq-eqb _ _ good)) in
    ends_in s (omega (arith, most)) cs r h room (omega (arith, none)) (omega (arith, enough, b.first))
