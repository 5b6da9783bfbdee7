-- A line is obeyed in one call or in several: a call does of its steps as many as there is room for, and `step` with those that are left
-- does and prints the rest. With room each call does at least one, so that the calls come to an end. Assumes nothing.
use Rattle.std.proofs.Common.{◌≡◌, ◌+◌, ◌-◌, ◌<◌, ◌≤◌, refl, sym, ap, subst, ◌∙◌, arith}
use Rattle.std.specs.Prelude.{ℕ, List, ◌++◌, Some, None, Option, IfSome, IsSome}
use Rattle.std.specs.Option.{is_some}
use Rattle.std.proofs.lemmas.Bool.{le-leb}
use Rattle.parts.proofs.Laws.Choose.{pick_true}
use Rattle.bench.specs.Delivery.{steps}
use Rattle.bench.specs.Runs.{frames, stepping}
use Rattle.bench.specs.Text.{rows_text}
use Rattle.bench.specs.Running.{fitting}
use Rattle.bench.specs.declared.ring.Bench.{Bench}
use Rattle.bench.proofs.Laws.Steps.{steps_add, frames_add, text_append}
use Rattle.bench.proofs.Laws.Running.{fitting_some}
use Rattle.script.specs.Script.{Session, on_bench, does, prints}
use Rattle.script.specs.Session.{cut, left_of, obeyed}
use Rattle.script.specs.InParts.{InParts}
use Rattle.script.specs.declared.lines.Line.{Line}
use Rattle.script.specs.declared.lines.Line.TheVariants.{Ring, Queue, Step}
use Rattle.script.specs.declared.session.Acted.{Acted}
use Rattle.script.proofs.Laws.Session.{fitting_most}

-- ---- steps in two parts

abbrev stepped : Bench → ℕ → List ℕ
stepped b k = rows_text (frames b (stepping k))

text_parts : (k j : ℕ) (b : Bench) → stepped b k ++ stepped (steps k b) j ≡ stepped b (k + j)
text_parts k j b = sym (text_append (frames b (stepping k)) (frames (steps k b) (stepping j))) ∙ ap rows_text (sym (frames_add k j b))

-- ---- a line in two parts

module _ (room : ℕ) where
  -- lines other than `step` are done at once
  at_once : (s : Session) (l : Option Line) → left_of s l room ≡ 0 → cut l room ≡ l → InParts s l room
  at_once s l z e =
      record {
        whole = λ h. (ap (does s) e, ap (prints s) e);
        rest = λ h. absurd (omega arith);
      }

  no_ring : (count : ℕ) → InParts None (Some (Step count)) room
  unfolding does prints cut left_of
  no_ring count = record { whole = λ h. (refl, refl); rest = λ h. absurd (omega arith) }

  on_ring : (b : Bench) (count : ℕ) → InParts (Some b) (Some (Step count)) room
  unfolding does prints cut left_of
  on_ring b count =
      let k : ℕ = fitting count room in
      let m : k ≤ count = fitting_most count room in
      let e : k + (count - k) ≡ count = omega arith in
      record {
        whole = λ h. let f : k ≡ count = omega arith in (ap (λ (j : ℕ). on_bench (steps j b)) f, ap (stepped b) f);
        rest = λ h. (
          ap on_bench (sym (steps_add k (count - k) b)) ∙ ap (λ (j : ℕ). on_bench (steps j b)) e,
          text_parts k (count - k) b ∙ ap (stepped b) e,
        );
      }

pub in_parts : (s : Session) (l : Option Line) (room : ℕ) → InParts s l room
unfolding cut left_of
in_parts None None room = at_once room None None refl refl
in_parts None (Some (Ring n)) room = at_once room None (Some (Ring n)) refl refl
in_parts None (Some (Queue from q)) room = at_once room None (Some (Queue from q)) refl refl
in_parts None (Some (Step count)) room = no_ring room count
in_parts (Some b) None room = at_once room (Some b) None refl refl
in_parts (Some b) (Some (Ring n)) room = at_once room (Some b) (Some (Ring n)) refl refl
in_parts (Some b) (Some (Queue from q)) room = at_once room (Some b) (Some (Queue from q)) refl refl
in_parts (Some b) (Some (Step count)) room = on_ring room b count

-- a call with room leaves fewer steps
pub fewer : (s : Session) (count room : ℕ) → 0 < count → 64 ≤ room → left_of s (Some (Step count)) room < count
unfolding left_of
fewer None count room h r = h
fewer (Some b) count room h r = omega (arith, fitting_some count room h (omega arith), fitting_most count room)

-- and does not ask for more
pub room_enough : (s : Session) (l : Option Line) (room at : ℕ) → 64 ≤ room → IsSome (obeyed s l room at)
unfolding obeyed
room_enough s l room at m = ap is_some (pick_true _ _ (le-leb 64 room m))

-- as a call tells it
pub left_falls : (s : Session) (r : Option Acted) (count room at : ℕ) → r ≡ obeyed s (Some (Step count)) room at → 0 < count → 64 ≤ room
    → IfSome r (λ acted. acted.left < count)
unfolding obeyed
left_falls s r count room at e h m =
    subst (λ r. IfSome r (λ acted. acted.left < count)) (sym (e ∙ pick_true _ _ (le-leb 64 room m))) (fewer s count room h m)
