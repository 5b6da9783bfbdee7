-- Laws of the refusal of the whole: the ring file's number, then the capture's. Assumes nothing.
use mathlib.Core.Path.{◌≡◌, refl, sym, subst, ◌∙◌}
use mathlib.Core.Bool.{Bool, true, false}
use mathlib.Core.List.{List}
use Prim.Native.Nat.{ℕ, ◌≤◌}
use native.Mathlib.Omega.{arith}
use lib.Dec.{eqb}
use lib.ListN.{length}
use borrow.Author.Tests.{eq-eqb, ne_eqb, eqb-true}
use Rattle.codec.specs.Octets.{zeros}
use Rattle.codec.specs.Ring.{count, limit, member_at, ring_refusal, ring_of}
use Rattle.codec.proofs.Laws.Ring.{head_good, head_passed}
use Rattle.parts.proofs.Laws.Choose.{pick_true, pick_false}
use Rattle.capture.specs.Record.{capture_number}
use Rattle.day.specs.Day.{start_day}
use Rattle.replay.specs.Replays.{begun_by, open_by}
use Rattle.replay.specs.Runs.{Course, begun, refusal}

module _ (file s : List ℕ) (k : ℕ) (e : k ≡ ring_refusal file) where
  pub refused_ring : (k ≡ 0 → ⊥) → k ≡ refusal file s
  unfolding refusal
  refused_ring other = e ∙ sym (pick_false _ _ (ne_eqb (ring_refusal file) 0 (λ z. other (e ∙ z))))

  pub refused_capture : (m : ℕ) → k ≡ 0 → m ≡ capture_number s → m ≡ refusal file s
  unfolding refusal
  refused_capture m z em = em ∙ sym (pick_true _ _ (eq-eqb (ring_refusal file) 0 (sym e ∙ z)))

-- what passes has a ring file that passes, of two octets at least
pub passes_ring : (file s : List ℕ) → refusal file s ≡ 0 → ring_refusal file ≡ 0
unfolding refusal
passes_ring file s e = go (eqb (ring_refusal file) 0) refl
  where
    go : (b : Bool) → eqb (ring_refusal file) 0 ≡ b → ring_refusal file ≡ 0
    go true h = eqb-true _ _ h
    go false h = sym (pick_false (capture_number s) (ring_refusal file) h) ∙ e

pub passes_long : (file s : List ℕ) (k : ℕ) → k ≡ refusal file s → k ≡ 0 → 2 ≤ length file
passes_long file s k e z = (head_good file (head_passed file (passes_ring file s (sym e ∙ z)))).long

-- and that has its members
pub passes_members : (file s : List ℕ) (k : ℕ) → k ≡ refusal file s → k ≡ 0 → member_at file (count file) ≤ length file
passes_members file s k e z =
    subst (λ (m : ℕ). member_at file (count file) ≤ m) (sym (head_good file (head_passed file (passes_ring file s (sym e ∙ z)))).sized) (omega arith)

-- what begins
module _ (file s : List ℕ) (k : ℕ) (c : Course) (e : k ≡ refusal file s) where
  pub begins_none : (k ≡ 0 → ⊥) → c ≡ begun (start_day 0 0) → c ≡ begun_by file s
  begins_none o x = x ∙ sym (pick_false (begun (start_day (count file) (limit file))) (begun (start_day 0 0)) (ne_eqb (refusal file s) 0 (λ z. o (e ∙ z))))

  pub begins_day : (n l : ℕ) → k ≡ 0 → n ≡ count file → l ≡ limit file → c ≡ begun (start_day n l) → c ≡ begun_by file s
  begins_day n l z en el x = x ∙ rw (en, el) (sym (pick_true (begun (start_day (count file) (limit file))) (begun (start_day 0 0)) (eq-eqb (refusal file s) 0 (sym e ∙ z))))

-- and its open channels
module _ (file s : List ℕ) (k : ℕ) (cs : List ℕ) (e : k ≡ refusal file s) where
  pub begins_closed : (k ≡ 0 → ⊥) → cs ≡ zeros 64 → cs ≡ open_by file s
  begins_closed o x = x ∙ sym (pick_false (ring_of file).channels (zeros 64) (ne_eqb (refusal file s) 0 (λ z. o (e ∙ z))))

  pub begins_open : k ≡ 0 → cs ≡ (ring_of file).channels → cs ≡ open_by file s
  begins_open z x = x ∙ sym (pick_true (ring_of file).channels (zeros 64) (eq-eqb (refusal file s) 0 (sym e ∙ z)))
