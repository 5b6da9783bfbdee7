-- Laws of what is laid over a buffer, one part behind the other. Assumes nothing.
use mathlib.Core.Path.{◌≡◌, refl, sym, ap, ◌∙◌}
use mathlib.Core.Bool.{Bool, true, false, cond}
use mathlib.Core.List.{List, [], ◌∷◌, ◌++◌}
use Prim.Native.Nat.{ℕ, zero, suc, ◌+◌, ◌≤◌, ◌<◌}
use native.Mathlib.Numerals.{add-one}
use native.Mathlib.Omega.{arith}
use lib.Dec.{ltb}
use lib.ListN.{length, length-append, length-set, set, take, drop}
use lib.Seq.{set_split}
use Rattle.codec.specs.Octets.{laid}
use Rattle.codec.proofs.Laws.Octets.{laid_none, laid_laid, laid_three, length_laid}
use borrow.Author.Tests.{eq-eqb, ne_eqb}
use Rattle.parts.proofs.Laws.Choose.{pick_true, pick_false}
use Rattle.bench.specs.Text.{width, digits, decimal, cell, front_text, ends_text, back_text, row_text, letter, space, line_feed, refused, answer_text}
use Rattle.bench.specs.declared.rows.Kind.{Kind}
use Rattle.bench.specs.declared.rows.Row.{Row}

-- two parts
pub laid_both : (l l₁ l₂ x y : List ℕ) (at b c : ℕ) → at + length x + length y ≤ length l → b ≡ at + length x → c ≡ b + length y
    → l₁ ≡ laid l at x → l₂ ≡ laid l₁ b y → (l₂ ≡ laid l at (x ++ y)) × (c ≡ at + length (x ++ y))
laid_both l l₁ l₂ x y at b c h eb ec p q = (
  q ∙ ap (λ (k : List ℕ). laid k b y) p ∙ laid_laid l x y at b (sym eb) (omega arith),
  omega (arith, length-append x y),
)

-- ---- how long

pub length_digits : (k v : ℕ) → length (digits k v) ≡ k
length_digits zero v = refl
length_digits (suc k) v = ap suc (length_digits k v)

pub width_short : (v : ℕ) → width v ≤ 5
unfolding width
width_short v = go (ltb v 10) (ltb v 100) (ltb v 1000) (ltb v 10000)
  where
    go : (a b c d : Bool) → cond a 1 (cond b 2 (cond c 3 (cond d 4 5))) ≤ 5
    go true b c d = omega arith
    go false true c d = omega arith
    go false false true d = omega arith
    go false false false true = omega arith
    go false false false false = omega arith

pub cell_length : (v behind : ℕ) → length (cell v behind) ≡ width v + 1
unfolding cell decimal
cell_length v behind = length-append (digits (width v) v) (behind ∷ []) ∙ ap (λ (k : ℕ). k + 1) (length_digits (width v) v)

pub cell_short : (v behind : ℕ) → length (cell v behind) ≤ 6
cell_short v behind = omega (arith, cell_length v behind, width_short v)

pub front_short : (number : ℕ) (kind : Kind) → length (front_text number kind) ≤ 8
unfolding front_text
front_short number kind = omega (arith, length-append (cell number space) (letter kind ∷ space ∷ []), cell_short number space)

pub ends_short : (from to : ℕ) → length (ends_text from to) ≤ 12
unfolding ends_text
ends_short from to = omega (arith, length-append (cell from space) (cell to space), cell_short from space, cell_short to space)

pub back_short : (priority octets : ℕ) → length (back_text priority octets) ≤ 12
unfolding back_text
back_short priority octets = omega (arith, length-append (cell priority space) (cell octets line_feed), cell_short priority space, cell_short octets line_feed)

-- "no line is longer"
pub row_short : (r : Row) → length (row_text r) ≤ 32
unfolding row_text
row_short r =
    omega (
      arith,
      length-append (front_text r.number r.kind) (ends_text r.from r.to ++ back_text r.priority r.octets),
      length-append (ends_text r.from r.to) (back_text r.priority r.octets),
      front_short r.number r.kind,
      ends_short r.from r.to,
      back_short r.priority r.octets,
    )

-- ---- what is left of a buffer, and one octet more

-- room behind what was laid
pub room_behind : (l l₁ x : List ℕ) (at b k : ℕ) → l₁ ≡ laid l at x → b ≡ at + length x → at + length x + k ≤ length l → b + k ≤ length l₁
room_behind l l₁ x at b k e f h = omega (arith, ap length e, length_laid l x at (omega arith))

pub laid_one : (l : List ℕ) (i b : ℕ) → i < length l → set l i b ≡ laid l i (b ∷ [])
laid_one l i b h = set_split l i b h ∙ ap (λ (k : ℕ). take i l ++ b ∷ drop k l) (sym (add-one i))

-- a number's cell
pub cell_laid : (l l₁ : List ℕ) (at k v behind r : ℕ) → at + 6 ≤ length l → k ≡ width v → l₁ ≡ laid l at (digits k v) → r ≡ at + k + 1
    → (set l₁ (at + k) behind ≡ laid l at (cell v behind)) × (r ≡ at + length (cell v behind))
unfolding cell decimal
cell_laid l l₁ at k v behind r h e p er =
    let w : k ≤ 5 = omega (arith, width_short v) in
    let n : length (digits k v) ≡ k = length_digits k v in
    let m : length l₁ ≡ length l = ap length p ∙ length_laid l (digits k v) at (omega arith) in
    rw (← e)
    (laid_both l l₁ (set l₁ (at + k) behind) (digits k v) (behind ∷ []) at (at + k) r (omega arith) (omega arith) er p (laid_one l₁ (at + k) behind (omega arith)))

-- the number's cell, then the kind and a space
pub front_laid : (l l₁ : List ℕ) (at a number c : ℕ) (kind : Kind) → at + 8 ≤ length l → l₁ ≡ laid l at (cell number space) → a ≡ at + length (cell number space) → c ≡ letter kind
    → (set (set l₁ a c) (a + 1) space ≡ laid l at (front_text number kind)) × (a + 2 ≡ at + length (front_text number kind))
unfolding front_text
front_laid l l₁ at a number c kind h p e g =
    let s : length (cell number space) ≤ 6 = cell_short number space in
    let m : length l₁ ≡ length l = ap length p ∙ length_laid l (cell number space) at (omega arith) in
    let k : length (set l₁ a c) ≡ length l = length-set l₁ a c ∙ m in
    let two : set (set l₁ a c) (a + 1) space ≡ laid l₁ a (c ∷ space ∷ []) =
    (laid_both l₁ (set l₁ a c) (set (set l₁ a c) (a + 1) space) (c ∷ []) (space ∷ []) a (a + 1) (a + 2) (omega arith) refl (omega arith) (laid_one l₁ a c (omega arith)) (laid_one (set l₁ a c) (a + 1) space (omega arith))).0 in
    rw (← g)
    (laid_both l l₁ (set (set l₁ a c) (a + 1) space) (cell number space) (c ∷ space ∷ []) at a (a + 2) (omega arith) e refl p two)

-- the three parts of a row
pub row_laid : (l l₁ l₂ l₃ : List ℕ) (at a b r : ℕ) (row : Row) → at + 32 ≤ length l
    → l₁ ≡ laid l at (front_text row.number row.kind) → a ≡ at + length (front_text row.number row.kind)
    → l₂ ≡ laid l₁ a (ends_text row.from row.to) → b ≡ a + length (ends_text row.from row.to)
    → l₃ ≡ laid l₂ b (back_text row.priority row.octets) → r ≡ b + length (back_text row.priority row.octets)
    → (l₃ ≡ laid l at (row_text row)) × (r ≡ at + length (row_text row))
unfolding row_text
row_laid l l₁ l₂ l₃ at a b r row h p ea q eb o er =
    let x : List ℕ = front_text row.number row.kind in
    let y : List ℕ = ends_text row.from row.to in
    let z : List ℕ = back_text row.priority row.octets in
    let f : length x ≤ 8 = front_short row.number row.kind in
    let g : length y ≤ 12 = ends_short row.from row.to in
    let k : length z ≤ 12 = back_short row.priority row.octets in
    (laid_three l l₁ l₂ l₃ x y z at a b (sym ea) (sym eb) (omega arith) p q o, omega (arith, length-append x (y ++ z), length-append y z))

-- a queue's answer
pub answer_none : (l : List ℕ) (at number : ℕ) → number ≡ 0 → (l ≡ laid l at (answer_text number)) × (at ≡ at + length (answer_text number))
unfolding answer_text
answer_none l at number e =
    let z : answer_text number ≡ [] = pick_true _ _ (eq-eqb number 0 e) in
    rw z (sym (laid_none l at), omega arith)

pub answer_some : (l l₁ l₂ : List ℕ) (at number r : ℕ) → at + 14 ≤ length l → (number ≡ 0 → ⊥) → l₁ ≡ laid l at refused
    → l₂ ≡ laid l₁ (at + 8) (cell number line_feed) → r ≡ at + 8 + length (cell number line_feed)
    → (l₂ ≡ laid l at (answer_text number)) × (r ≡ at + length (answer_text number))
unfolding answer_text
answer_some l l₁ l₂ at number r h n p q e =
    let z : answer_text number ≡ refused ++ cell number line_feed = pick_false _ _ (ne_eqb number 0 n) in
    rw z (laid_both l l₁ l₂ refused (cell number line_feed) at (at + 8) r (omega (arith, cell_short number line_feed)) refl e p q)
