-- Laws of calls one after the other: what they write is what as many records print. Assumes nothing.
use mathlib.Core.Path.{◌≡◌, refl, sym, ap, subst, ◌∙◌}
use mathlib.Core.Bool.{Bool, true, false}
use mathlib.Core.List.{List, [], ◌∷◌, ◌++◌, append_assoc}
use Prim.Native.Nat.{ℕ, ◌+◌, ◌-◌, ◌<◌, ◌≤◌}
use native.Mathlib.Nat.{zero-add, add_assoc}
use native.Mathlib.Omega.{arith}
use lib.Dec.{leb}
use lib.ListN.{length, take, drop}
use lib.Seq.{take_at, drop_at, length-take-le}
use borrow.Author.Tests.{leb-true, leb-false}
use Rattle.codec.specs.Octets.{laid}
use Rattle.replay.specs.Runs.{Record, heard_from, Course, gone, gone_text}
use Rattle.replay.specs.Replays.{course_of, turns_in, records_now, RanFrom}
use Rattle.replay.specs.declared.run.Replay.{Replay}
use Rattle.replay.specs.declared.run.Ran.{Ran}
use Rattle.replay.proofs.Laws.Starting.{turns_fit}
use Rattle.replay.proofs.Theorems.Calls.{call_joins}
use Rattle.replay.proofs.Laws.Running.{gone_none, heard_zero, same_heard}
use Rattle.replay_theorems.specs.WholeDay.{WholeDay}
use Rattle.replay_theorems.specs.Calls.{RunCall, CallsFrom, left_by, written, written_by}
use Rattle.replay_theorems.proofs.Laws.Turning.{run_keeps}
use Rattle.replay_theorems.proofs.Laws.WholeRecords.{record_whole}

-- ---- one call

-- what is laid over a list, read again
laid_again : (l x : List ℕ) (at : ℕ) → at ≤ length l → take (length x) (drop at (laid l at x)) ≡ x
laid_again l x at h =
    ap (take (length x)) (drop_at (take at l) (x ++ drop (at + length x) l) at (length-take-le at l h)) ∙ take_at x (drop (at + length x) l) (length x) refl

no_turns : (room done : ℕ) → room ≡ 0 → turns_in room done ≡ 0
no_turns room done e = omega (arith, e, (turns_fit room done).0)

pub call_writes : (r : Replay) (s out₀ : List ℕ) (at : ℕ) (a : Ran) (out : List ℕ) → RanFrom r s out₀ at a out
    → take (a.used - at) (drop at out) ≡ gone_text (course_of r) (records_now r s (length out₀ - at))
call_writes r s out₀ at a out h = go (leb at (length out₀)) refl
  where
    x : List ℕ
    x = gone_text (course_of r) (records_now r s (length out₀ - at))

    long : a.used - at ≡ length x
    long = omega (arith, h.end)

    go : (b : Bool) → leb at (length out₀) ≡ b → take (a.used - at) (drop at out) ≡ x
    go true t =
        ap (λ (k : ℕ). take k (drop at out)) long ∙ ap (λ (l : List ℕ). take (length x) (drop at l)) h.text ∙ laid_again out₀ x at (leb-true _ _ t)
    go false t =
        let past : length out₀ < at = leb-false _ _ t in
        let none : x ≡ [] =
        ap (λ (k : ℕ). gone_text (course_of r) (heard_from r.n r.channels k s r.at)) (no_turns (length out₀ - at) r.done (omega (arith, past)))
        ∙ ap (gone_text (course_of r)) (heard_zero r.n r.channels s r.at)
        ∙ (gone_none (course_of r)).1 in
        ap (λ (k : ℕ). take k (drop at out)) (long ∙ ap length none) ∙ sym none

-- ---- one after the other

-- how many records they are for
abbrev pub turns_by : Replay → List RunCall → ℕ
turns_by r [] = 0
turns_by r (c ∷ cs) = turns_in (length c.before - c.at) r.done + turns_by c.ran.replay cs

module _ (n limit : ℕ) (most : n ≤ 64) (s : List ℕ) where
  call_whole : (r : Replay) (c : RunCall) → RanFrom r s c.before c.at c.ran c.behind → WholeDay n limit (course_of r).day
      → WholeDay n limit (course_of c.ran.replay).day
  call_whole r c h w =
      subst (λ (x : Course). WholeDay n limit x.day) (sym h.course)
      (run_keeps (WholeDay n limit) (record_whole most) (records_now r s (length c.before - c.at)) (course_of r) w)

  pub calls_whole : (cs : List RunCall) (r : Replay) → CallsFrom r s cs → WholeDay n limit (course_of r).day → WholeDay n limit (course_of (left_by r cs)).day
  calls_whole [] r h w = w
  calls_whole (c ∷ cs) r h w = calls_whole cs c.ran.replay h.1 (call_whole r c h.0 w)

pub calls_channels : (s : List ℕ) (cs : List RunCall) (r : Replay) → CallsFrom r s cs → (left_by r cs).channels ≡ r.channels
calls_channels s [] r h = refl
calls_channels s (c ∷ cs) r h = calls_channels s cs c.ran.replay h.1 ∙ h.0.same_channels

-- in the ring of n with these open channels
module _ (n limit : ℕ) (most : n ≤ 64) (channels s : List ℕ) where
  -- the calls, and then j records more: as many records in one
  abbrev pub Joins : Replay → List RunCall → ℕ → Type 0
  Joins r cs j =
      (gone (course_of r) (heard_from n channels (turns_by r cs + j) s r.at) ≡ gone (course_of (left_by r cs)) (heard_from n channels j s (left_by r cs).at))
      × (gone_text (course_of r) (heard_from n channels (turns_by r cs + j) s r.at) ≡ written_by cs ++ gone_text (course_of (left_by r cs)) (heard_from n channels j s (left_by r cs).at))

  joins_more : (r : Replay) (c : RunCall) (cs : List RunCall) (j : ℕ) → r.n ≡ n → r.channels ≡ channels → RanFrom r s c.before c.at c.ran c.behind
      → Joins c.ran.replay cs j → Joins r (c ∷ cs) j
  joins_more r c cs j en ec h i =
      let t : ℕ = turns_in (length c.before - c.at) r.done in
      let m : ℕ = turns_by c.ran.replay cs in
      let e : Course = course_of (left_by c.ran.replay cs) in
      let left : List Record = heard_from n channels j s (left_by c.ran.replay cs).at in
      let all = call_joins r s c.before c.at c.ran c.behind h (m + j) in
      let first : heard_from n channels (t + m + j) s r.at ≡ heard_from r.n r.channels (t + (m + j)) s r.at =
      ap (λ (k : ℕ). heard_from n channels k s r.at) (add_assoc t m j) ∙ same_heard n r.n channels r.channels (sym en) (sym ec) (t + (m + j)) s r.at in
      let next : heard_from r.n r.channels (m + j) s c.ran.replay.at ≡ heard_from n channels (m + j) s c.ran.replay.at =
      same_heard r.n n r.channels channels en ec (m + j) s c.ran.replay.at in (
        ap (gone (course_of r)) first ∙ all.0 ∙ ap (gone (course_of c.ran.replay)) next ∙ i.0,
        ap (gone_text (course_of r)) first
            ∙ all.1
            ∙ ap (λ (x : List ℕ). x ++ gone_text (course_of c.ran.replay) (heard_from r.n r.channels (m + j) s c.ran.replay.at)) (sym (call_writes r s c.before c.at c.ran c.behind h))
            ∙ ap (λ (x : List ℕ). written c ++ x) (ap (gone_text (course_of c.ran.replay)) next ∙ i.1)
            ∙ sym (append_assoc (written c) (written_by cs) (gone_text e left)),
      )

  pub calls_join : (cs : List RunCall) (r : Replay) → CallsFrom r s cs → WholeDay n limit (course_of r).day → r.channels ≡ channels → (j : ℕ) → Joins r cs j
  calls_join [] r h w ec j =
      let e : heard_from n channels (0 + j) s r.at ≡ heard_from n channels j s r.at = ap (λ (k : ℕ). heard_from n channels k s r.at) (zero-add j) in
      (ap (gone (course_of r)) e, ap (gone_text (course_of r)) e)
  calls_join (c ∷ cs) r h w ec j =
      joins_more r c cs j w.size ec h.0 (calls_join cs c.ran.replay h.1 (call_whole n limit most s r c h.0 w) (h.0.same_channels ∙ ec) j)
