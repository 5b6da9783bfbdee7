-- Laws of a record's turn: what it asks for, and what a called station answers. Assumes nothing.
use mathlib.Core.Path.{◌≡◌, refl, sym, ap, subst, ◌∙◌}
use mathlib.Core.List.{List}
use Prim.Native.Nat.{ℕ, ◌+◌, ◌<◌, ◌≤◌}
use native.Mathlib.Omega.{arith}
use lib.ListN.{length, drop}
use borrow.Author.Tests.{eq-eqb}
use Rattle.std.specs.Prelude.{Option}
use Rattle.codec.specs.Octets.{laid}
use Rattle.codec.proofs.Laws.Octets.{laid_none}
use Rattle.parts.proofs.Laws.Choose.{pick_true}
use Rattle.parts.proofs.Laws.Live.{seats_most}
use Rattle.bench.specs.Text.{answer_text}
use Rattle.day.proofs.Laws.Asking.{nobody_asks, event_asks}
use Rattle.day.specs.Printed.{stopped_text}
use Rattle.parts.specs.Live.{seats}
use Rattle.parts.specs.declared.request.Request.{Request}
use Rattle.bench.specs.Delivery.{is_quiet}
use Rattle.bench.specs.declared.table.Handing.{Handing}
use Rattle.capture.specs.declared.record.Event.{Event}
use Rattle.capture.specs.declared.record.Event.TheVariants.{Delivered, LostForAddressee, LostForAll, Timer, Queue}
use Rattle.capture.specs.declared.record.Read.{Read}
use Rattle.capture.specs.declared.record.Read.TheVariants.{End, Refused, Good}
use Rattle.day.specs.Calls.{called_text}
use Rattle.day.specs.Plans.{handing_for, call_for, place_for, plan_of, no_plan}
use Rattle.replay.specs.Table.{Way, plan_in, moved_on, halted, onward, joined_by, timer_lines, after_taken, after_timer, event_text, after_event, read_text, after_read}
use Rattle.day.specs.Strikes.{taken_text}
use Rattle.day.specs.declared.wire.Flying.{Flying}
use Rattle.day.specs.declared.calls.Call.{Call}
use Rattle.day.specs.declared.calls.Told.{Told}
use Rattle.day.specs.declared.strikes.Taken.{Taken}
use Rattle.day.specs.declared.plan.Plan.{Plan}

-- ---- what is asked for

module _ (w : Way) (r : Read) where
  pub plan_event : (e : Event) (next : ℕ) → r ≡ Good e next → plan_in w r ≡ plan_of (handing_for w.n w.wire e) (place_for e) (call_for w.wire e)
  unfolding plan_in
  plan_event e next x = rw x

  pub plan_made : (e : Event) (next : ℕ) (h : Handing) (p : ℕ) (k : Option Call) → r ≡ Good e next → h ≡ handing_for w.n w.wire e → p ≡ place_for e → k ≡ call_for w.wire e
      → plan_of h p k ≡ plan_in w r
  plan_made e next h p k x a b c = rw (a, b, c) (sym (plan_event e next x))

  pub plan_refused : (number : ℕ) → r ≡ Refused number → plan_in w r ≡ no_plan
  unfolding plan_in
  plan_refused number x = rw x

  pub plan_end : r ≡ End → plan_in w r ≡ no_plan
  unfolding plan_in
  plan_end x = rw x

-- ---- what is printed and kept

module _ (w r : Way) (next : ℕ) where
  pub taken_on : (h : Handing) (t : Taken) (wire rest : List Flying) (used : ℕ) → r ≡ moved_on w wire next (w.done + 1) 0 used → rest ≡ drop 1 w.wire → wire ≡ joined_by rest h.to t.reply
      → used ≡ w.used + length (taken_text h t) → r ≡ after_taken w next h t
  taken_on h t wire rest used e x y z =
      e
      ∙ ap (λ (l : List Flying). moved_on w l next (w.done + 1) 0 used) (y ∙ ap (λ (l : List Flying). joined_by l h.to t.reply) x)
      ∙ ap (λ (u : ℕ). moved_on w (joined_by (drop 1 w.wire) h.to t.reply) next (w.done + 1) 0 u) z

  pub timer_on : (p : ℕ) (a : Told) (wire : List Flying) (used : ℕ) → a.number ≡ 0 → r ≡ moved_on w wire next (w.done + 1) 0 used → wire ≡ joined_by w.wire p a.sent
      → used ≡ w.used + length (called_text p a) → r ≡ after_timer w next p a
  timer_on p a wire used zero e y z =
      e
      ∙ ap (λ (l : List Flying). moved_on w l next (w.done + 1) 0 used) y
      ∙ ap (λ (u : ℕ). moved_on w (joined_by w.wire p a.sent) next (w.done + 1) 0 u) z
      ∙ sym (pick_true _ _ (eq-eqb a.number 0 zero))

module _ (w : Way) (e : Event) (next : ℕ) (h : Handing) (t : Taken) (a : Told) where
  abbrev Laid : List ℕ → Way → List ℕ → Type 0
  Laid l r l₁ = (r ≡ after_event w e next h t a) × (l₁ ≡ laid l w.used (event_text w e h t a))

  pub event_frame : (l l₁ : List ℕ) (r : Way) → (r ≡ after_taken w next h t) × (l₁ ≡ laid l w.used (taken_text h t)) → e ≡ Delivered → Laid l r l₁
  unfolding after_event event_text
  event_frame l l₁ r x y = rw y x

  pub event_lost : (l l₁ : List ℕ) (r : Way) → (r ≡ after_taken w next h t) × (l₁ ≡ laid l w.used (taken_text h t)) → e ≡ LostForAddressee → Laid l r l₁
  unfolding after_event event_text
  event_lost l l₁ r x y = rw y x

  pub event_gone : (l l₁ : List ℕ) (r : Way) → (r ≡ after_taken w next h t) × (l₁ ≡ laid l w.used (taken_text h t)) → e ≡ LostForAll → Laid l r l₁
  unfolding after_event event_text
  event_gone l l₁ r x y = rw y x

  pub event_timer : (l l₁ : List ℕ) (r : Way) (p : ℕ) → (r ≡ after_timer w next p a) × (l₁ ≡ laid l w.used (timer_lines w.done p a)) → e ≡ Timer p → Laid l r l₁
  unfolding after_event event_text
  event_timer l l₁ r p x y = rw y x

  pub event_queue : (l l₁ : List ℕ) (r : Way) (p : ℕ) (q : Request) → (r ≡ onward w w.wire next (answer_text a.number)) × (l₁ ≡ laid l w.used (answer_text a.number)) → e ≡ Queue p q → Laid l r l₁
  unfolding after_event event_text
  event_queue l l₁ r p q x y = rw y x

module _ (w : Way) (d : Read) (h : Handing) (t : Taken) (a : Told) where
  abbrev Done : List ℕ → Way → List ℕ → Type 0
  Done l r l₁ = (r ≡ after_read w d h t a) × (l₁ ≡ laid l w.used (read_text w d h t a))

  pub read_event : (l l₁ : List ℕ) (r : Way) (e : Event) (next : ℕ) → (r ≡ after_event w e next h t a) × (l₁ ≡ laid l w.used (event_text w e h t a)) → d ≡ Good e next → Done l r l₁
  unfolding after_read read_text
  read_event l l₁ r e next x y = rw y x

  pub read_refused : (l l₁ : List ℕ) (r : Way) (number : ℕ) → (r ≡ halted w number (stopped_text number w.done)) × (l₁ ≡ laid l w.used (stopped_text number w.done)) → d ≡ Refused number → Done l r l₁
  unfolding after_read read_text
  read_refused l l₁ r number x y = rw y x

  pub read_end : (l : List ℕ) (r : Way) → r ≡ moved_on w w.wire w.at w.done w.number w.used → d ≡ End → Done l r l
  unfolding after_read read_text
  read_end l r x y =
      let z : w.used ≡ w.used + 0 = omega arith in
      rw y (x ∙ ap (λ (u : ℕ). moved_on w w.wire w.at w.done w.number u) z, sym (laid_none l w.used))

-- the place that is called is in the table
pub timer_place : (e : Event) (p : ℕ) → e ≡ Timer p → place_for e < 64 → p < 64
timer_place e p x h = subst (λ (d : Event). place_for d < 64) x h

pub planned_place : (w : Way) (r : Read) (p : Plan) (e : Event) (next : ℕ) → p ≡ plan_in w r → r ≡ Good e next → p.place < 64 → place_for e < 64
planned_place w r p e next x y h = subst (λ (k : ℕ). k < 64) (ap (λ (q : Plan). q.place) (x ∙ plan_event w r e next y)) h

-- ---- as `hand` asks for it

pub plan_asks : (w : Way) (r : Read) → ((plan_in w r).handing.m ≡ seats (plan_in w r).handing.n) × ((plan_in w r).handing.quiet ≡ is_quiet (plan_in w r).handing.frame)
unfolding plan_in
plan_asks w End = nobody_asks
plan_asks w (Refused k) = nobody_asks
plan_asks w (Good e next) = event_asks w.n w.wire e

pub plan_most : (w : Way) (r : Read) → (plan_in w r).handing.m ≤ 64
plan_most w r = omega (arith, (plan_asks w r).0, seats_most (plan_in w r).handing.n)

pub event_place : (w : Way) (r : Read) (e : Event) (next : ℕ) → r ≡ Good e next → (plan_in w r).place < 64 → place_for e < 64
event_place w r e next y h = planned_place w r (plan_in w r) e next refl y h

-- the same turn with the plan's handing by another name
pub same_done : (w w' : Way) (d : Read) (h h' : Handing) (t : Taken) (a : Told) (l l₁ : List ℕ) → h ≡ h' → (w' ≡ after_read w d h t a) × (l₁ ≡ laid l w.used (read_text w d h t a)) → (w' ≡ after_read w d h' t a) × (l₁ ≡ laid l w.used (read_text w d h' t a))
same_done w w' d h h' t a l l₁ e x = rw (← e) x
