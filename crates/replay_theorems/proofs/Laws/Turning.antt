-- Laws of a turn: a record goes on, is refused, or leaves a stopped run as it is. Assumes nothing.
use mathlib.Core.Path.{◌≡◌, refl, sym, ap, subst, ◌∙◌}
use mathlib.Core.Bool.{Bool, true, false}
use mathlib.Core.List.{List, [], ◌∷◌}
use Prim.Native.Nat.{ℕ}
use lib.Dec.{eqb}
use borrow.Author.Tests.{eqb-true, eqb-false}
use Rattle.parts.proofs.Laws.Choose.{pick_true, pick_false}
use Rattle.capture.specs.declared.record.Event.{Event}
use Rattle.day.specs.Day.{Day}
use Rattle.day.specs.Records.{after_record, event_number}
use Rattle.day.specs.Printed.{stopped_text}
use Rattle.replay.specs.Runs.{Record, good, bad, Course, stopped, record_number, effect, effect_text, turn, turn_text, gone}
use Rattle.replay_theorems.specs.Lines.{Line, stopped as stop_line, effect_lines, turn_lines}

-- what one turn does, prints, and prints line by line
pub record Turned (c : Course) (r : Record) (next : Course) (text : List ℕ) (lines : List Line) : Type 0 where
  pub leaves : turn c r ≡ next
  pub prints : turn_text c r ≡ text
  pub shows : turn_lines c r ≡ lines

pub data Turns (c : Course) (r : Record) : Type 0 where
  -- stopped before
  over : (c.number ≡ 0 → ⊥) → Turned c r c [] [] → Turns c r
  -- refused
  stops : c.number ≡ 0 → (record_number c.day r ≡ 0 → ⊥)
      → Turned c r (stopped c (record_number c.day r)) (stopped_text (record_number c.day r) c.done) (stop_line (record_number c.day r) c.done ∷ [])
      → Turns c r
  -- not refused
  goes : c.number ≡ 0 → record_number c.day r ≡ 0 → Turned c r (effect c r) (effect_text c.day r) (effect_lines c.day r) → Turns c r

pub turns : (c : Course) (r : Record) → Turns c r
unfolding turn turn_text turn_lines
turns c r = go (eqb c.number 0) refl (eqb (record_number c.day r) 0) refl
  where
    go : (a : Bool) → eqb c.number 0 ≡ a → (b : Bool) → eqb (record_number c.day r) 0 ≡ b → Turns c r
    go false x b y = over (eqb-false _ _ x) (record { leaves = pick_false _ _ x; prints = pick_false _ _ x; shows = pick_false _ _ x })
    go true x false y =
        stops (eqb-true _ _ x) (eqb-false _ _ y)
        (record {
          leaves = pick_true _ _ x ∙ pick_false _ _ y;
          prints = pick_true _ _ x ∙ pick_false _ _ y;
          shows = pick_true _ _ x ∙ pick_false _ _ y;
        })
    go true x true y =
        goes (eqb-true _ _ x) (eqb-true _ _ y)
        (record {
          leaves = pick_true _ _ x ∙ pick_true _ _ y;
          prints = pick_true _ _ x ∙ pick_true _ _ y;
          shows = pick_true _ _ x ∙ pick_true _ _ y;
        })

-- ---- a run, record by record

pub bad_number : (d : Day) (k : ℕ) → record_number d (bad k) ≡ k
unfolding record_number
bad_number d k = refl

-- ---- what every record that is not refused keeps, every run keeps

number_good : (d : Day) (e : Event) → record_number d (good e) ≡ event_number d e
unfolding record_number
number_good d e = refl

module _ (P : Day → Type 0) (keeps : (d : Day) (e : Event) → event_number d e ≡ 0 → P d → P (after_record d e)) where
  pub turn_keeps : (c : Course) (r : Record) → P c.day → P (turn c r).day
  turn_keeps c r h = go r refl (turns c r)
    where
      at : {x : Course} → turn c r ≡ x → P x.day → P (turn c r).day
      at e w = subst (λ (y : Course). P y.day) (sym e) w

      go : (q : Record) → q ≡ r → Turns c r → P (turn c r).day
      go q s (over o t) = at t.leaves h
      go q s (stops z o t) = at t.leaves h
      go (good e) s (goes z n t) = at (t.leaves ∙ ap (effect c) (sym s)) (keeps c.day e (sym (number_good c.day e) ∙ ap (record_number c.day) s ∙ n) h)
      go (bad k) s (goes z n t) = at (t.leaves ∙ ap (effect c) (sym s)) h

  pub run_keeps : (rs : List Record) (c : Course) → P c.day → P (gone c rs).day
  unfolding gone
  run_keeps [] c h = h
  run_keeps (r ∷ rs) c h = run_keeps rs (turn c r) (turn_keeps c r h)
