-- Laws of steps in a row: one more at the end, and what a run of them composes. Assumes nothing.
use mathlib.Core.Path.{◌≡◌, refl, sym, ap, ◌∙◌}
use mathlib.Core.List.{List, [], ◌∷◌, ◌++◌, append_assoc, append-nil}
use Prim.Native.Nat.{ℕ, zero, suc, ◌+◌}
use native.Mathlib.Nat.{zero-add, suc-add}
use Rattle.parts.specs.Frames.{Dispatch}
use Rattle.std.specs.Prelude.{None, Some}
use Rattle.bench.specs.Delivery.{deliver_to, step_on, step, steps}
use Rattle.bench.specs.Rows.{row_on, rows_on}
use Rattle.bench.specs.Runs.{after_event, composed, frames, stepping}
use Rattle.bench.specs.Text.{row_text, rows_text}
use Rattle.bench.specs.Running.{steps_text}
use Rattle.bench.specs.declared.ring.Bench.{Bench}
use Rattle.bench.specs.declared.rows.Row.{Row}

pub steps_none : (b : Bench) → steps 0 b ≡ b
unfolding steps
steps_none b = refl

pub steps_more : (k : ℕ) (b : Bench) → steps (suc k) b ≡ step (steps k b)
unfolding steps
steps_more zero b = refl
steps_more (suc k) b = steps_more k (step b)

pub text_append : (xs ys : List Row) → rows_text (xs ++ ys) ≡ rows_text xs ++ rows_text ys
unfolding rows_text
text_append [] ys = refl
text_append (r ∷ xs) ys = ap (λ (t : List ℕ). row_text r ++ t) (text_append xs ys) ∙ sym (append_assoc (row_text r) (rows_text xs) (rows_text ys))

-- the frames of k steps and one more
pub frames_more : (k : ℕ) (b : Bench) → frames b (stepping (suc k)) ≡ frames b (stepping k) ++ rows_on (step (steps k b)).wire
unfolding frames stepping steps composed after_event
frames_more zero b = append-nil (rows_on (step b).wire)
frames_more (suc k) b =
    ap (λ (rs : List Row). rows_on (step b).wire ++ rs) (frames_more k (step b))
    ∙ sym (append_assoc (rows_on (step b).wire) (frames (step b) (stepping k)) (rows_on (step (steps k (step b))).wire))

pub steps_text_more : (k : ℕ) (b : Bench) → steps_text (suc k) b ≡ steps_text k b ++ rows_text (rows_on (step (steps k b)).wire)
unfolding steps_text
steps_text_more k b = ap rows_text (frames_more k b) ∙ text_append (frames b (stepping k)) (rows_on (step (steps k b)).wire)

-- ---- one step

pub steps_one : (b : Bench) → steps 1 b ≡ step b
unfolding steps
steps_one b = refl

pub text_one : (b : Bench) → steps_text 1 b ≡ rows_text (rows_on (step b).wire)
unfolding steps_text rows_text frames stepping
text_one b = steps_text_more 0 b ∙ ap (λ (c : Bench). rows_text (rows_on (step c).wire)) (steps_none b)

-- ---- a step keeps the ring's size

step_size : (b : Bench) → (step b).n ≡ b.n
unfolding step step_on deliver_to
step_size b = go b.wire.sent
  where
    go : (d : Dispatch) → (step_on b d).n ≡ b.n
    go None = refl
    go (Some (frame, to)) = refl

pub steps_size : (k : ℕ) (b : Bench) → (steps k b).n ≡ b.n
unfolding steps
steps_size zero b = refl
steps_size (suc k) b = steps_size k (step b) ∙ step_size b

-- ---- k steps, and then j

pub steps_add : (k j : ℕ) (b : Bench) → steps (k + j) b ≡ steps j (steps k b)
unfolding steps
steps_add zero j b = ap (λ (i : ℕ). steps i b) (zero-add j)
steps_add (suc k) j b = ap (λ (i : ℕ). steps i b) (suc-add k j) ∙ steps_add k j (step b)

pub frames_add : (k j : ℕ) (b : Bench) → frames b (stepping (k + j)) ≡ frames b (stepping k) ++ frames (steps k b) (stepping j)
unfolding frames stepping steps composed after_event
frames_add zero j b = ap (λ (i : ℕ). frames b (stepping i)) (zero-add j)
frames_add (suc k) j b =
    ap (λ (i : ℕ). frames b (stepping i)) (suc-add k j)
    ∙ ap (λ (rs : List Row). rows_on (step b).wire ++ rs) (frames_add k j (step b))
    ∙ sym (append_assoc (rows_on (step b).wire) (frames (step b) (stepping k)) (frames (steps k (step b)) (stepping j)))

-- ---- with no frame on the wire nothing happens

pub step_silent : (b : Bench) (d : Dispatch) → b.wire.sent ≡ d → d ≡ None → step b ≡ b
unfolding step step_on
step_silent b d e z = ap (step_on b) (e ∙ z)

pub steps_silent : (k : ℕ) (b : Bench) → b.wire.sent ≡ None → steps k b ≡ b
unfolding steps
steps_silent zero b z = refl
steps_silent (suc k) b z = ap (steps k) (step_silent b None z refl) ∙ steps_silent k b z

-- and nothing is composed
row_none : (from : ℕ) → row_on from None ≡ []
unfolding row_on
row_none from = refl

pub frames_silent : (k : ℕ) (b : Bench) → b.wire.sent ≡ None → frames b (stepping k) ≡ []
unfolding frames stepping composed after_event
frames_silent zero b z = refl
frames_silent (suc k) b z =
    let e : step b ≡ b = step_silent b None z refl in
    let r : rows_on (step b).wire ≡ [] = ap (λ (c : Bench). rows_on c.wire) e ∙ ap (row_on b.wire.from) z ∙ row_none b.wire.from in
    rw (r, e) (frames_silent k b z)

-- so once the wire is empty more steps change nothing and print nothing
pub steps_rest : (k j : ℕ) (b : Bench) → (steps k b).wire.sent ≡ None → steps (k + j) b ≡ steps k b
steps_rest k j b z = steps_add k j b ∙ steps_silent j (steps k b) z

pub text_rest : (k j : ℕ) (b : Bench) → (steps k b).wire.sent ≡ None → steps_text (k + j) b ≡ steps_text k b
unfolding steps_text
text_rest k j b z =
    ap rows_text
    (frames_add k j b
    ∙ ap (λ (rs : List Row). frames b (stepping k) ++ rs) (frames_silent j (steps k b) z)
    ∙ append-nil (frames b (stepping k)))
