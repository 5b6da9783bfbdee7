-- Laws of the lines of a record, laid side by side. Assumes nothing.
use mathlib.Core.Path.{◌≡◌, refl, sym, ap, ◌∙◌}
use mathlib.Core.Bool.{Bool, true, false}
use mathlib.Core.List.{List, [], ◌++◌, append-nil, append_assoc}
use Prim.Native.Nat.{ℕ, zero, suc, ◌+◌, ◌*◌, ◌<◌, ◌≤◌}
use native.Mathlib.Numerals.{add-one}
use native.Mathlib.Nat.{add-zero, zero-add}
use native.Mathlib.Omega.{arith}
use lib.ListN.{length, length-append}
use Rattle.codec.specs.Octets.{laid}
use Rattle.codec.proofs.Laws.Octets.{length_laid, laid_none}
use Rattle.parts.specs.Choose.{pick}
use Rattle.parts.specs.Live.{live_at}
use Rattle.parts.specs.Frames.{Dispatch}
use Rattle.std.specs.Prelude.{Option, None, Some}
use Rattle.bench.specs.Rows.{row_of, row_on}
use Rattle.parts.specs.declared.live.Live.{Live}
use Rattle.parts.proofs.Laws.Choose.{pick_true, pick_false}
use Rattle.bench.specs.Text.{space, line_feed, text, cell, row_text, rows_text}
use Rattle.bench.specs.declared.table.Handing.{Handing}
use Rattle.bench.proofs.Laws.Laying.{laid_both, cell_short, row_short}
use Rattle.day.specs.Printed.{strike_text, struck_text, stopped_text}
use Rattle.day.specs.Strikes.{span, mark_text, marks_text}

-- four parts
laid_four : (l l₁ l₂ l₃ l₄ x y z v : List ℕ) (at a b c r : ℕ) → at + length x + length y + length z + length v ≤ length l
    → a ≡ at + length x → b ≡ a + length y → c ≡ b + length z → r ≡ c + length v
    → l₁ ≡ laid l at x → l₂ ≡ laid l₁ a y → l₃ ≡ laid l₂ b z → l₄ ≡ laid l₃ c v
    → (l₄ ≡ laid l at (x ++ (y ++ (z ++ v)))) × (r ≡ at + length (x ++ (y ++ (z ++ v))))
laid_four l l₁ l₂ l₃ l₄ x y z v at a b c r h ea eb ec er p q o n =
    let m₁ : length l₁ ≡ length l = ap length p ∙ length_laid l x at (omega arith) in
    let m₂ : length l₂ ≡ length l₁ = ap length q ∙ length_laid l₁ y a (omega arith) in
    let zv : length (z ++ v) ≡ length z + length v = length-append z v in
    let yzv : length (y ++ (z ++ v)) ≡ length y + length (z ++ v) = length-append y (z ++ v) in
    let last : (l₄ ≡ laid l₂ b (z ++ v)) × (r ≡ b + length (z ++ v)) = laid_both l₂ l₃ l₄ z v b c r (omega arith) ec er o n in
    let more : (l₄ ≡ laid l₁ a (y ++ (z ++ v))) × (r ≡ a + length (y ++ (z ++ v))) = laid_both l₁ l₂ l₄ y (z ++ v) a b r (omega arith) eb last.1 q last.0 in
    laid_both l l₁ l₄ x (y ++ (z ++ v)) at a r (omega arith) ea more.1 p more.0

-- ---- a strike, and a stop

pub strike_laid : (l l₁ l₂ l₃ l₄ : List ℕ) (at a r p q : ℕ) → at + 22 ≤ length l
    → l₁ ≡ laid l at (text "struck ") → l₂ ≡ laid l₁ (at + 7) (cell p space) → a ≡ at + 7 + length (cell p space)
    → l₃ ≡ laid l₂ a (text "by ") → l₄ ≡ laid l₃ (a + 3) (cell q line_feed) → r ≡ a + 3 + length (cell q line_feed)
    → (l₄ ≡ laid l at (strike_text p q)) × (r ≡ at + length (strike_text p q))
unfolding strike_text
strike_laid l l₁ l₂ l₃ l₄ at a r p q h o n ea m k er =
    laid_four l l₁ l₂ l₃ l₄ (text "struck ") (cell p space) (text "by ") (cell q line_feed) at (at + 7) a (a + 3) r
    (omega (arith, cell_short p space, cell_short q line_feed)) refl ea refl er o n m k

pub stopped_laid : (l l₁ l₂ l₃ l₄ : List ℕ) (at a r k i : ℕ) → at + 23 ≤ length l
    → l₁ ≡ laid l at (text "stopped ") → l₂ ≡ laid l₁ (at + 8) (cell k space) → a ≡ at + 8 + length (cell k space)
    → l₃ ≡ laid l₂ a (text "at ") → l₄ ≡ laid l₃ (a + 3) (cell i line_feed) → r ≡ a + 3 + length (cell i line_feed)
    → (l₄ ≡ laid l at (stopped_text k i)) × (r ≡ at + length (stopped_text k i))
unfolding stopped_text
stopped_laid l l₁ l₂ l₃ l₄ at a r k i h o n ea m j er =
    laid_four l l₁ l₂ l₃ l₄ (text "stopped ") (cell k space) (text "at ") (cell i line_feed) at (at + 8) a (a + 3) r
    (omega (arith, cell_short k space, cell_short i line_feed)) refl ea refl er o n m j

-- how long
pub strike_short : (p q : ℕ) → length (strike_text p q) ≤ 22
unfolding strike_text
strike_short p q =
    omega (arith, length-append (text "struck ") (cell p space ++ (text "by " ++ cell q line_feed)), length-append (cell p space) (text "by " ++ cell q line_feed), length-append (text "by ") (cell q line_feed), cell_short p space, cell_short q line_feed)

pub struck_short : (w : Option ℕ) (q : ℕ) → length (struck_text w q) ≤ 22
unfolding struck_text
struck_short None q = omega arith
struck_short (Some p) q = strike_short p q

-- nothing, or a strike
pub struck_none : (l : List ℕ) (at : ℕ) (w : Option ℕ) (q : ℕ) → w ≡ None → (l ≡ laid l at (struck_text w q)) × (at ≡ at + length (struck_text w q))
unfolding struck_text
struck_none l at w q e = rw e (sym (laid_none l at), omega arith)

pub struck_one : (l l₁ : List ℕ) (at r p q : ℕ) (w : Option ℕ) → w ≡ Some p → (l₁ ≡ laid l at (strike_text p q)) × (r ≡ at + length (strike_text p q))
    → (l₁ ≡ laid l at (struck_text w q)) × (r ≡ at + length (struck_text w q))
unfolding struck_text
struck_one l l₁ at r p q w e h = rw e h

-- ---- those that are marked

pub mark_on : (l l₁ : List ℕ) (at r q : ℕ) (v : Live) (w : Option ℕ) → live_at v q ≡ true → (l₁ ≡ laid l at (struck_text w q)) × (r ≡ at + length (struck_text w q))
    → (l₁ ≡ laid l at (mark_text v w q)) × (r ≡ at + length (mark_text v w q))
mark_on l l₁ at r q v w e h =
    let z : mark_text v w q ≡ struck_text w q = pick_true _ _ e in
    rw z h

pub mark_off : (l : List ℕ) (at q : ℕ) (v : Live) (w : Option ℕ) → live_at v q ≡ false → (l ≡ laid l at (mark_text v w q)) × (at ≡ at + length (mark_text v w q))
mark_off l at q v w e =
    let z : mark_text v w q ≡ [] = pick_false _ _ e in
    rw z (sym (laid_none l at), omega arith)

pub mark_short : (v : Live) (w : Option ℕ) (q : ℕ) → length (mark_text v w q) ≤ 22
mark_short v w q = go (live_at v q) refl
  where
    go : (b : Bool) → live_at v q ≡ b → length (mark_text v w q) ≤ 22
    go true e = omega (arith, struck_short w q, ap length (pick_true (struck_text w q) [] e))
    go false e = let z : length (mark_text v w q) ≡ 0 = ap length (pick_false (struck_text w q) [] e) in omega arith

module _ (v : Live) (w : Option ℕ) where
  marks_none : (p : ℕ) → marks_text v w 0 p ≡ []
  unfolding marks_text
  marks_none p = refl

  -- one more at the end
  marks_behind : (k p : ℕ) → marks_text v w (suc k) p ≡ marks_text v w k p ++ mark_text v w (p + k)
  unfolding marks_text
  marks_behind zero p = append-nil (mark_text v w p) ∙ ap (λ (q : ℕ). mark_text v w q) (sym (add-zero p))
  marks_behind (suc k) p =
      let e : suc p + k ≡ p + suc k = omega arith in
      ap (λ (l : List ℕ). mark_text v w p ++ l) (marks_behind k (suc p) ∙ ap (λ (q : ℕ). marks_text v w k (suc p) ++ mark_text v w q) e)
      ∙ sym (append_assoc (mark_text v w p) (marks_text v w k (suc p)) (mark_text v w (p + suc k)))

  marks_more : (q : ℕ) → marks_text v w (q + 1) 0 ≡ marks_text v w q 0 ++ mark_text v w q
  marks_more q = ap (λ (k : ℕ). marks_text v w k 0) (add-one q) ∙ marks_behind q 0 ∙ ap (λ (p : ℕ). marks_text v w q 0 ++ mark_text v w p) (zero-add q)

  pub marks_short : (k p : ℕ) → length (marks_text v w k p) ≤ k * 22
  unfolding marks_text
  marks_short zero p = omega arith
  marks_short (suc k) p = omega (arith, length-append (mark_text v w p) (marks_text v w k (suc p)), mark_short v w p, marks_short k (suc p))

  -- q positions are done
  abbrev pub Marked : List ℕ → List ℕ → ℕ → ℕ → ℕ → Type 0
  Marked l l₁ at end q = (l₁ ≡ laid l at (marks_text v w q 0)) × (end ≡ at + length (marks_text v w q 0))

  pub marked_none : (l : List ℕ) (at : ℕ) → Marked l l at at 0
  marked_none l at = rw (marks_none 0) (sym (laid_none l at), omega arith)

  pub marked_more : (l l₁ l₂ : List ℕ) (at a b q m : ℕ) → at + m * 22 ≤ length l → q < m → Marked l l₁ at a q → (l₂ ≡ laid l₁ a (mark_text v w q)) × (b ≡ a + length (mark_text v w q)) → Marked l l₂ at b (q + 1)
  marked_more l l₁ l₂ at a b q m room less h e =
      rw (marks_more q) (laid_both l l₁ l₂ (marks_text v w q 0) (mark_text v w q) at a b (omega (arith, marks_short q 0, mark_short v w q)) h.1 e.1 h.0 e.0)

-- ---- two parts: the strikes, and the new frame

pub calls_laid : (l l₁ l₂ x y : List ℕ) (at a r : ℕ) → at + length x + length y ≤ length l → (l₁ ≡ laid l at x) × (a ≡ at + length x) → (l₂ ≡ laid l₁ a y) × (r ≡ a + length y)
    → (l₂ ≡ laid l at (x ++ y)) × (r ≡ at + length (x ++ y))
calls_laid l l₁ l₂ x y at a r h p q = laid_both l l₁ l₂ x y at a r h p.1 q.1 p.0 q.0

pub row_most : (from : ℕ) (d : Dispatch) → length (rows_text (row_on from d)) ≤ 32
unfolding row_on rows_text
row_most from None = omega arith
row_most from (Some (frame, to)) = omega (arith, ap length (append-nil (row_text (row_of from frame to))), row_short (row_of from frame to))

pub span_most : (h : Handing) → span h ≤ h.m
unfolding span
span_most h = go h.quiet refl
  where
    go : (b : Bool) → h.quiet ≡ b → pick h.quiet 0 h.m ≤ h.m
    go true e = let z : pick h.quiet 0 h.m ≡ 0 = pick_true 0 h.m e in omega arith
    go false e = let z : pick h.quiet 0 h.m ≡ h.m = pick_false 0 h.m e in omega arith

-- the same marks
pub marks_same : (v : Live) (w w' : Option ℕ) (m m' : ℕ) → w ≡ w' → m ≡ m' → (l l₁ : List ℕ) (at a : ℕ) → (l₁ ≡ laid l at (marks_text v w m 0)) × (a ≡ at + length (marks_text v w m 0))
    → (l₁ ≡ laid l at (marks_text v w' m' 0)) × (a ≡ at + length (marks_text v w' m' 0))
marks_same v w w' m m' e f l l₁ at a h = rw (← e, ← f) h
