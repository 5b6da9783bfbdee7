-- Laws of a frame record: whom the frame reaches, who strikes, and what of it is printed. Assumes nothing.
use mathlib.Core.Path.{◌≡◌, refl, sym, ap, ◌∙◌}
use mathlib.Core.Bool.{Bool, true, false, false≢true}
use mathlib.Core.List.{List, [], ◌∷◌, ◌++◌}
use Prim.Native.Nat.{ℕ, zero, suc, ◌+◌, ◌<◌, ◌≤◌}
use native.Mathlib.Omega.{arith}
use lib.Dec.{ltb, eqb}
use lib.ListN.{length, get_or, drop, set, length-drop, length-set}
use lib.Seq.{get_or-set_same, get_or-set_other, drop-cons}
use borrow.Author.Tests.{le-ltb, ltb-true, ltb-false, eqb-true, eqb-false}
use Rattle.parts.specs.Choose.{pick}
use Rattle.parts.specs.Live.{live_at, seats}
use Rattle.parts.specs.Frames.{failing_of}
use Rattle.parts.specs.declared.frame.Frame.{Frame}
use Rattle.std.specs.Prelude.{Option, None, Some}
use Rattle.parts.specs.declared.live.Live.{Live}
use Rattle.parts.proofs.Laws.Choose.{pick_true, pick_false}
use Rattle.parts.proofs.Laws.Live.{seats_most}
use Rattle.parts.specs.Live.{newly}
use Rattle.station.specs.Stations.{answered}
use Rattle.station.specs.declared.station.Station.{Station}
use Rattle.station.specs.declared.station.Answer.{Answer}
use Rattle.bench.specs.Ring.{nobody}
use Rattle.bench.specs.Delivery.{handed, delivered, is_nobody, is_quiet}
use Rattle.bench.specs.Table.{hears}
use Rattle.bench.specs.declared.table.Handing.{Handing}
use Rattle.day.specs.Records.{nobody_hears}
use Rattle.day.specs.Printed.{struck_text, strikes_text}
use Rattle.day.specs.Strikes.{heeds, is_member, strikes_by, strikes_at, span, no_strikers, marked, strikers_of, mark_text, marks_text, strikers_text}
use Rattle.day.proofs.Laws.Strikes.{newly_of, handed_struck}

-- ---- nobody is handed anything

handed_nobody : (n : ℕ) (hs : ℕ → Bool) (f : Frame) (from to p : ℕ) (s : Station) → pick (ltb p n) (hs p) false ≡ false → handed n hs f from to p s ≡ answered s 0
unfolding handed
handed_nobody n hs f from to p s e = pick_false _ _ e

outside : (n : ℕ) (b : Bool) (p : ℕ) → n ≤ p → pick (ltb p n) b false ≡ false
outside n b p h = pick_false _ _ (le-ltb p n h)

deaf : (n p : ℕ) → pick (ltb p n) (nobody_hears p) false ≡ false
deaf n p = go (ltb p n)
  where
    go : (b : Bool) → pick b false false ≡ false
    go true = pick_true false false refl
    go false = pick_false false false refl

pub unheard_all : (n : ℕ) (hs : ℕ → Bool) (f : Frame) (from to : ℕ) → ((p : ℕ) → pick (ltb p n) (hs p) false ≡ false) → (p : ℕ) (ss : List Station) → delivered n hs f from to p ss ≡ ss
unfolding delivered
unheard_all n hs f from to e p [] = refl
unheard_all n hs f from to e p (s ∷ ss) =
    ap (λ (t : Station). t ∷ delivered n hs f from to (suc p) ss) (ap (λ (a : Answer). a.station) (handed_nobody n hs f from to p s (e p)))
    ∙ ap (λ (l : List Station). s ∷ l) (unheard_all n hs f from to e (suc p) ss)

pub unstruck_all : (n : ℕ) (hs : ℕ → Bool) (f : Frame) (from to : ℕ) → ((p : ℕ) → pick (ltb p n) (hs p) false ≡ false) → (p : ℕ) (ss : List Station) → strikes_text n hs f from to p ss ≡ []
unfolding strikes_text struck_text
unstruck_all n hs f from to e p [] = refl
unstruck_all n hs f from to e p (s ∷ ss) =
    ap (λ (w : Option ℕ). struck_text w p ++ strikes_text n hs f from to (suc p) ss) (ap (λ (a : Answer). a.struck) (handed_nobody n hs f from to p s (e p)))
    ∙ unstruck_all n hs f from to e (suc p) ss

pub unsent : (n : ℕ) (hs : ℕ → Bool) (f : Frame) (from to p : ℕ) (s : Station) → pick (ltb p n) (hs p) false ≡ false → (handed n hs f from to p s).sent ≡ None
unsent n hs f from to p s e = ap (λ (a : Answer). a.sent) (handed_nobody n hs f from to p s e)

pub none_at_all : (hs : ℕ → Bool) (p : ℕ) → pick (ltb p 0) (hs p) false ≡ false
none_at_all hs p = outside 0 (hs p) p (omega arith)

pub nobody_at_all : (n p : ℕ) → pick (ltb p n) (nobody_hears p) false ≡ false
nobody_at_all n p = deaf n p

-- ---- who is marked

less_or : (q k : ℕ) → q < suc k → (q ≡ k → ⊥) → q < k
less_or q k h o = go (ltb q k) refl
  where
    go : (b : Bool) → ltb q k ≡ b → q < k
    go true e = ltb-true q k e
    go false e = let z : k ≤ q = ltb-false q k e in absurd (o (omega arith))

marked_length : (none : Live) (k : ℕ) (ss : List Station) (h : Handing) → length (strikers_of none k ss h).on ≡ length none.on
unfolding strikers_of
marked_length none zero ss h = refl
marked_length none (suc k) ss h = length-set (strikers_of none k ss h).on k (strikes_at ss h k) ∙ marked_length none k ss h

pub marked_at : (none : Live) (ss : List Station) (h : Handing) → length none.on ≡ 64 → (k q : ℕ) → q < k → k ≤ 64 → live_at (strikers_of none k ss h) q ≡ strikes_at ss h q
unfolding strikers_of
marked_at none ss h size zero q less most = absurd (omega arith)
marked_at none ss h size (suc k) q less most = go (eqb q k) refl (λ (z : q < k). marked_at none ss h size k q z (omega arith))
  where
    go : (b : Bool) → eqb q k ≡ b → (q < k → live_at (strikers_of none k ss h) q ≡ strikes_at ss h q) → live_at (marked (strikers_of none k ss h) k (strikes_at ss h k)) q ≡ strikes_at ss h q
    go true e before =
        let z : q ≡ k = eqb-true q k e in
        let l : length (strikers_of none k ss h).on ≡ 64 = marked_length none k ss h ∙ size in
        ap (λ (i : ℕ). get_or (set (strikers_of none k ss h).on k (strikes_at ss h k)) i false) z
        ∙ get_or-set_same (strikers_of none k ss h).on k (strikes_at ss h k) false (omega arith)
        ∙ ap (strikes_at ss h) (sym z)
    go false e before =
        let z : q ≡ k → ⊥ = eqb-false q k e in
        get_or-set_other (strikers_of none k ss h).on k q (strikes_at ss h k) false z
        ∙ before (less_or q k less z)

-- ---- their lines

-- a station strikes the one that fails, or nobody
newly_line : (t : Bool) (p q : ℕ) → struck_text (pick t (Some p) None) q ≡ pick (is_member (pick t (Some p) None)) (struck_text (Some p) q) []
unfolding struck_text pick
newly_line true p q = refl
newly_line false p q = refl

struck_lines : (w : Option ℕ) (q : ℕ) (b : Bool) (l : Live) → struck_text (pick b (newly_of l w) None) q ≡ pick (is_member (pick b (newly_of l w) None)) (struck_text w q) []
unfolding struck_text pick newly
struck_lines None q true l = refl
struck_lines None q false l = refl
struck_lines (Some p) q true l = newly_line (live_at l p) p q
struck_lines (Some p) q false l = refl

struck_line : (w x : Option ℕ) (q : ℕ) (b : Bool) (l : Live) → x ≡ pick b (newly_of l w) None → struck_text x q ≡ pick (is_member x) (struck_text w q) []
struck_line w x q b l e = ap (λ (y : Option ℕ). struck_text y q) e ∙ struck_lines w q b l ∙ sym (ap (λ (y : Option ℕ). pick (is_member y) (struck_text w q) []) e)

none_line : (b : Bool) (q : ℕ) → pick b (struck_text None q) [] ≡ []
unfolding struck_text pick
none_line true q = refl
none_line false q = refl

outside_seats : (n q : ℕ) → seats n ≤ q → q < 64 → n ≤ q
outside_seats n q a b = go (ltb n 64) refl
  where
    go : (t : Bool) → ltb n 64 ≡ t → n ≤ q
    go true e = let z : seats n ≡ n = pick_true n 64 e in omega arith
    go false e = let z : seats n ≡ 64 = pick_false n 64 e in absurd (omega arith)

module _ (h : Handing) where
  abbrev line_of : ℕ → Station → List ℕ
  line_of p s = struck_text (handed h.n (hears h) h.frame h.from h.to p s).struck p

  abbrev lines_of : ℕ → List Station → List ℕ
  lines_of p ss = strikes_text h.n (hears h) h.frame h.from h.to p ss

  line_at : (p : ℕ) (s : Station) → line_of p s ≡ pick (strikes_by s p h) (struck_text (failing_of h.frame) p) []
  unfolding strikes_by
  line_at p s = struck_line (failing_of h.frame) _ p (heeds s p h) s.live (handed_struck s p h)

  quiet_line : failing_of h.frame ≡ None → (p : ℕ) (s : Station) → line_of p s ≡ []
  quiet_line e p s = line_at p s ∙ ap (λ (w : Option ℕ). pick (strikes_by s p h) (struck_text w p) []) e ∙ none_line (strikes_by s p h) p

  outside_line : (p : ℕ) (s : Station) → h.n ≤ p → line_of p s ≡ []
  unfolding struck_text
  outside_line p s o = ap (λ (a : Answer). struck_text a.struck p) (handed_nobody h.n (hears h) h.frame h.from h.to p s (outside h.n (hears h p) p o))

  silent_lines : (p : ℕ) (ss : List Station) → p + length ss ≤ 64 → ((q : ℕ) (s : Station) → p ≤ q → q < 64 → line_of q s ≡ []) → lines_of p ss ≡ []
  unfolding strikes_text
  silent_lines p [] most none = refl
  silent_lines p (s ∷ ss) most none =
      ap (λ (l : List ℕ). l ++ lines_of (suc p) ss) (none p s (omega arith) (omega arith))
      ∙ silent_lines (suc p) ss (omega arith) (λ q t a b. none q t (omega arith) b)

  module _ (ss : List Station) (size : length ss ≡ 64) (l : Live) (m : ℕ) (most : m ≤ 64) (marks : (q : ℕ) → q < m → live_at l q ≡ strikes_at ss h q) (rest : (q : ℕ) (s : Station) → m ≤ q → q < 64 → line_of q s ≡ []) where
    lines_marked : (k p : ℕ) → p + k ≡ m → lines_of p (drop p ss) ≡ marks_text l (failing_of h.frame) k p
    unfolding marks_text strikes_text
    lines_marked zero p e =
        silent_lines p (drop p ss) (omega (arith, length-drop p ss)) (λ q s a b. rest q s (omega arith) b)
    lines_marked (suc k) p e =
        let here : drop p ss ≡ get_or ss p nobody ∷ drop (suc p) ss = drop-cons ss p nobody (omega arith) in
        let mark : live_at l p ≡ strikes_at ss h p = marks p (omega arith) in
        ap (lines_of p) here
        ∙ ap (λ (x : List ℕ). x ++ lines_of (suc p) (drop (suc p) ss)) (line_at p (get_or ss p nobody) ∙ sym (ap (λ (b : Bool). pick b (struck_text (failing_of h.frame) p) []) mark))
        ∙ ap (λ (x : List ℕ). mark_text l (failing_of h.frame) p ++ x) (lines_marked k (suc p) (omega arith))

nobody_fails : (w : Option ℕ) → is_nobody w ≡ true → w ≡ None
nobody_fails None e = refl
nobody_fails (Some p) e = absurd (false≢true e)

-- the strikers' lines are those of the definition
pub strikers_lines : (h : Handing) (ss : List Station) → length ss ≡ 64 → h.m ≡ seats h.n → h.quiet ≡ is_quiet h.frame
    → strikers_text h (strikers_of no_strikers (span h) ss h) ≡ strikes_text h.n (hears h) h.frame h.from h.to 0 ss
unfolding span
strikers_lines h ss size members quiet = go h.quiet refl
  where
    go : (b : Bool) → h.quiet ≡ b → strikers_text h (strikers_of no_strikers (span h) ss h) ≡ strikes_text h.n (hears h) h.frame h.from h.to 0 ss
    go true e =
        let none : span h ≡ 0 = pick_true 0 h.m e in
        sym (lines_marked h ss size (strikers_of no_strikers (span h) ss h) (span h) (omega arith) (λ q a. absurd (omega arith)) (λ q s a b. quiet_line h (nobody_fails (failing_of h.frame) (sym quiet ∙ e)) q s) (span h) 0 (omega arith))
    go false e =
        let all : span h ≡ h.m = pick_false 0 h.m e in
        let most : span h ≤ 64 = omega (arith, seats_most h.n) in
        sym (lines_marked h ss size (strikers_of no_strikers (span h) ss h) (span h) most (λ q a. marked_at no_strikers ss h refl (span h) q a most) (λ q s a b. outside_line h q s (outside_seats h.n q (omega arith) b)) (span h) 0 (omega arith))
