-- Laws of the lines that say who was struck, and of the live sets that they leave. Assumes nothing.
use mathlib.Core.Path.{◌≡◌, refl, sym, ap, ◌∙◌}
use mathlib.Core.Bool.{Bool, true, false, not, ◌&&◌, ◌||◌}
use mathlib.Core.List.{List, [], ◌∷◌, ◌++◌}
use Prim.Native.Nat.{ℕ, zero, suc, ◌+◌, ◌<◌}
use native.Mathlib.Nat.{add-zero}
use native.Mathlib.Omega.{arith}
use lib.Dec.{eqb}
use lib.ListN.{length, get_or}
use lib.Seq.{get_or-set_other}
use borrow.Author.Tests.{eq-eqb, ne_eqb, eqb-true, eqb-false}
use Rattle.parts.specs.Live.{live_at, without}
use Rattle.parts.specs.declared.live.Live.{Live}
use Rattle.std.specs.Prelude.{Option, None, Some}
use Rattle.parts.specs.declared.frame.Frame.{Frame}
use Rattle.station.specs.Heard.{frame_rule}
use Rattle.station.specs.declared.station.Station.{Station}
use Rattle.station.specs.declared.station.Answer.{Answer}
use Rattle.station_theorems.specs.Striking.{Strikes}
use Rattle.station_theorems.specs.NobodyStruck.{StrikesNobody}
use Rattle.station_theorems.proofs.Laws.Telling.{struck_not_live}
use Rattle.station_theorems.proofs.Theorems.Striking.{frame_strikes}
use Rattle.bench.specs.Ring.{nobody}
use Rattle.bench.specs.Delivery.{handed}
use Rattle.bench.specs.declared.rows.Row.{Row}
use Rattle.replay_theorems.specs.Lines.{Line, queued, stopped, struck_line, sent_lines, struck_lines}
use Rattle.replay_theorems.specs.Strikes.{says_struck, struck_by}
use Rattle.replay_theorems.proofs.Laws.Handing.{handed_keeps}

-- ---- tests

pub and-true : (a : Bool) → (a && true) ≡ a
and-true true = refl
and-true false = refl

or-false : (a : Bool) → (a || false) ≡ a
or-false true = refl
or-false false = refl

and-false : (a : Bool) → (a && false) ≡ false
and-false true = refl
and-false false = refl

pub and_nor : (a x y : Bool) → ((a && not x) && not y) ≡ (a && not (x || y))
and_nor true true y = refl
and_nor true false y = refl
and_nor false x y = refl

-- ---- the lines

module _ (p q : ℕ) where
  pub none_says : struck_by p q [] ≡ false
  unfolding struck_by
  none_says = refl

  pub append_says : (ls ms : List Line) → struck_by p q (ls ++ ms) ≡ (struck_by p q ls || struck_by p q ms)
  unfolding struck_by
  append_says [] ms = refl
  append_says (l ∷ ls) ms = ap (λ (b : Bool). says_struck p q l || b) (append_says ls ms) ∙ sym (or_assoc (says_struck p q l) (struck_by p q ls) (struck_by p q ms))
    where
      or_assoc : (a b c : Bool) → ((a || b) || c) ≡ (a || (b || c))
      or_assoc true b c = refl
      or_assoc false b c = refl

  pub sent_says : (rows : List Row) → struck_by p q (sent_lines rows) ≡ false
  unfolding struck_by says_struck sent_lines
  sent_says [] = refl
  sent_says (r ∷ rs) = sent_says rs

  -- lines that end with frames
  pub sent_behind : (ls : List Line) (rows : List Row) → struck_by p q (ls ++ sent_lines rows) ≡ struck_by p q ls
  sent_behind ls rows = append_says ls (sent_lines rows) ∙ ap (λ (b : Bool). struck_by p q ls || b) (sent_says rows) ∙ or-false (struck_by p q ls)

  -- by another than q
  pub other_says : (w : Option ℕ) (i : ℕ) → (q ≡ i → ⊥) → struck_by p q (struck_line w i) ≡ false
  unfolding struck_by says_struck struck_line
  other_says None i o = refl
  other_says (Some a) i o =
      or-false (eqb a p && eqb i q) ∙ ap (λ (b : Bool). eqb a p && b) (ne_eqb i q (λ e. o (sym e))) ∙ and-false (eqb a p)

  pub nobody_says : (w : Option ℕ) (i : ℕ) → w ≡ None → struck_by p q (struck_line w i) ≡ false
  unfolding struck_by struck_line
  nobody_says w i e = ap (λ (v : Option ℕ). struck_by p q (struck_line v i)) e

  -- by nobody
  pub queued_says : (number : ℕ) → struck_by p q (queued number ∷ []) ≡ false
  unfolding struck_by says_struck
  queued_says number = refl

  pub stopped_says : (number index : ℕ) → struck_by p q (stopped number index ∷ []) ≡ false
  unfolding struck_by says_struck
  stopped_says number index = refl

-- ---- the live set that an answer leaves

abbrev pub LiveLeft : Station → Answer → Type 0
LiveLeft s a = (p q : ℕ) → live_at a.station.live p ≡ (live_at s.live p && not (struck_by p q (struck_line a.struck q)))

without_is : (l : Live) (r p q : ℕ) → live_at (without l r) p ≡ (live_at l p && not (struck_by p q (struck_line (Some r) q)))
unfolding struck_by says_struck struck_line
without_is l r p q = go (eqb r p) refl
  where
    says : (b : Bool) → eqb r p ≡ b → ((eqb r p && eqb q q) || false) ≡ b
    says b e = or-false (eqb r p && eqb q q) ∙ ap (λ (c : Bool). eqb r p && c) (eq-eqb q q refl) ∙ and-true (eqb r p) ∙ e

    go : (b : Bool) → eqb r p ≡ b → live_at (without l r) p ≡ (live_at l p && not ((eqb r p && eqb q q) || false))
    go true e =
        ap (λ (i : ℕ). live_at (without l i) p) (eqb-true r p e)
        ∙ struck_not_live l p
        ∙ sym (ap (λ (c : Bool). live_at l p && not c) (says true e) ∙ and-false (live_at l p))
    go false e =
        get_or-set_other l.on r p false false (λ x. eqb-false r p e (sym x))
        ∙ sym (ap (λ (c : Bool). live_at l p && not c) (says false e) ∙ and-true (live_at l p))

kept_is : (a : Bool) (p q : ℕ) → a ≡ (a && not (struck_by p q (struck_line None q)))
unfolding struck_by struck_line
kept_is a p q = sym (and-true a)

pub strikes_leave : (s : Station) (a : Answer) (may : ℕ → Type 0) → Strikes s a may → LiveLeft s a
strikes_leave s a may h p q = go a.struck refl
  where
    go : (w : Option ℕ) → a.struck ≡ w → live_at a.station.live p ≡ (live_at s.live p && not (struck_by p q (struck_line a.struck q)))
    go None e =
        ap (λ (l : Live). live_at l p) (h.nobody_leaves e)
        ∙ kept_is (live_at s.live p) p q
        ∙ ap (λ (w : Option ℕ). live_at s.live p && not (struck_by p q (struck_line w q))) (sym e)
    go (Some r) e =
        ap (λ (l : Live). live_at l p) (h.told_leaves r e)
        ∙ without_is s.live r p q
        ∙ ap (λ (w : Option ℕ). live_at s.live p && not (struck_by p q (struck_line w q))) (sym e)

pub nobody_leaves : (s : Station) (a : Answer) → StrikesNobody s a → LiveLeft s a
nobody_leaves s a k p q =
    ap (λ (l : Live). live_at l p) k.live_kept
    ∙ sym (ap (λ (b : Bool). live_at s.live p && not b) (nobody_says p q a.struck q k.nobody_struck) ∙ and-true (live_at s.live p))

pub handed_leaves : (n : ℕ) (hears : ℕ → Bool) (f : Frame) (from to i : ℕ) (s : Station) → LiveLeft s (handed n hears f from to i s)
handed_leaves n hears f from to i s =
    handed_keeps (LiveLeft s) n hears f from to i s (strikes_leave s (frame_rule s f from to) _ (frame_strikes s f from to)) (λ p q. kept_is (live_at s.live p) p q)

-- ---- the lines of a frame that is handed round, from the position k on: those by q are its own

module _ (n : ℕ) (hears : ℕ → Bool) (f : Frame) (from to : ℕ) (p : ℕ) where
  below_says : (q k : ℕ) (ss : List Station) → q < k → struck_by p q (struck_lines n hears f from to k ss) ≡ false
  unfolding struck_lines
  below_says q k [] h = none_says p q
  below_says q k (s ∷ ss) h =
      append_says p q (struck_line (handed n hears f from to k s).struck k) (struck_lines n hears f from to (suc k) ss)
      ∙ ap (λ (b : Bool). b || struck_by p q (struck_lines n hears f from to (suc k) ss)) (other_says p q _ k (λ e. omega arith))
      ∙ below_says q (suc k) ss (omega arith)

  pub handed_says : (k i : ℕ) (ss : List Station) (q : ℕ) → q ≡ k + i → i < length ss
      → struck_by p q (struck_lines n hears f from to k ss) ≡ struck_by p q (struck_line (handed n hears f from to q (get_or ss i nobody)).struck q)
  unfolding struck_lines
  handed_says k i [] q e h = absurd (omega arith)
  handed_says k zero (s ∷ ss) q e h =
      let same : q ≡ k = e ∙ add-zero k in
      append_says p q (struck_line (handed n hears f from to k s).struck k) (struck_lines n hears f from to (suc k) ss)
      ∙ ap (λ (b : Bool). struck_by p q (struck_line (handed n hears f from to k s).struck k) || b) (below_says q (suc k) ss (omega arith))
      ∙ or-false _
      ∙ ap (λ (j : ℕ). struck_by p q (struck_line (handed n hears f from to j s).struck j)) (sym same)
  handed_says k (suc i) (s ∷ ss) q e h =
      append_says p q (struck_line (handed n hears f from to k s).struck k) (struck_lines n hears f from to (suc k) ss)
      ∙ ap (λ (b : Bool). b || struck_by p q (struck_lines n hears f from to (suc k) ss)) (other_says p q _ k (λ x. omega arith))
      ∙ handed_says (suc k) i ss q (omega arith) (omega arith)
