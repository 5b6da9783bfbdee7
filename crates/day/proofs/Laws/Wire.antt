-- Laws of the wire as an array: how many frames, one more, one less. Assumes nothing.
use mathlib.Core.Path.{◌≡◌, refl, sym, ap, ◌∙◌}
use mathlib.Core.Bool.{Bool, true, false}
use mathlib.Core.List.{List, [], ◌∷◌, ◌++◌, append-nil}
use Prim.Native.Nat.{ℕ, zero, suc, ◌+◌, ◌-◌, ◌<◌, ◌≤◌}
use native.Mathlib.Numerals.{add-one}
use native.Mathlib.Omega.{arith}
use lib.Dec.{ltb}
use lib.ListN.{get_or, take, drop, set, length, length-append}
use lib.Seq.{length-take-le, take_all, take-suc, take-suc-set, take-append-le, drop-append-le, get_or-take}
use borrow.Author.Tests.{lt-ltb, le-ltb, ltb-true, ltb-false}
use Rattle.parts.specs.declared.frame.Frame.{Frame}
use Rattle.parts.specs.Frames.{Dispatch}
use Rattle.std.specs.Prelude.{None, Some}
use Rattle.parts.proofs.Laws.Choose.{pick_true, pick_false}
use Rattle.day.specs.Day.{most_frames, joining}
use Rattle.day.specs.Wire.{flying_of, pushed}
use Rattle.day.specs.declared.wire.Flying.{Flying}
use Rattle.day.specs.declared.wire.Frames.{Frames}

module _ (w : Frames) (full : length w.items ≡ 64) where
  pub flying_short : w.count < 64 → length (flying_of w) ≡ w.count
  unfolding flying_of
  flying_short h = length-take-le w.count w.items (omega (arith, full))

  pub flying_full : 64 ≤ w.count → length (flying_of w) ≡ 64
  unfolding flying_of
  flying_full h = ap length (take_all w.count w.items (omega (arith, full))) ∙ full

  pub flying_most : (length (flying_of w) ≤ 64) × (length (flying_of w) ≤ w.count)
  flying_most = go (ltb w.count 64) refl
    where
      go : (b : Bool) → ltb w.count 64 ≡ b → (length (flying_of w) ≤ 64) × (length (flying_of w) ≤ w.count)
      go true e =
          let h : w.count < 64 = ltb-true w.count 64 e in
          let l : length (flying_of w) ≡ w.count = flying_short h in
          omega arith
      go false e =
          let h : 64 ≤ w.count = ltb-false w.count 64 e in
          let l : length (flying_of w) ≡ 64 = flying_full h in
          omega arith

  pub flying_all : take most_frames (flying_of w) ≡ flying_of w
  flying_all = take_all 64 (flying_of w) flying_most.0

  -- a frame of the array is the frame of the wire
  pub flying_at : (i : ℕ) (d : Flying) → i < length (flying_of w) → get_or w.items i d ≡ get_or (flying_of w) i d
  unfolding flying_of
  flying_at i d h = sym (get_or-take w.count w.items i d (omega (arith, flying_most)))

  -- one more
  pushed_short : (f : Flying) → w.count < 64 → flying_of (pushed w f) ≡ flying_of w ++ (f ∷ [])
  unfolding flying_of pushed
  pushed_short f h =
      ap flying_of (pick_true (record { items = set w.items w.count f; count = w.count + 1 }) w (lt-ltb w.count 64 h))
      ∙ ap (λ (n : ℕ). take n (set w.items w.count f)) (add-one w.count)
      ∙ take-suc-set w.items w.count f (omega (arith, full))

  pushed_full : (f : Flying) → 64 ≤ w.count → flying_of (pushed w f) ≡ flying_of w
  unfolding flying_of pushed
  pushed_full f h = ap flying_of (pick_false (record { items = set w.items w.count f; count = w.count + 1 }) w (le-ltb w.count 64 h))

  pub flying_pushed : (f : Flying) → flying_of (pushed w f) ≡ take most_frames (flying_of w ++ (f ∷ []))
  flying_pushed f = go (ltb w.count 64) refl
    where
      go : (b : Bool) → ltb w.count 64 ≡ b → flying_of (pushed w f) ≡ take most_frames (flying_of w ++ (f ∷ []))
      go true e =
          let h : w.count < 64 = ltb-true w.count 64 e in
          let l : length (flying_of w) ≡ w.count = flying_short h in
          let m : length (flying_of w ++ (f ∷ [])) ≡ length (flying_of w) + 1 = length-append (flying_of w) (f ∷ []) in
          pushed_short f h ∙ sym (take_all 64 (flying_of w ++ (f ∷ [])) (omega arith))
      go false e =
          let h : 64 ≤ w.count = ltb-false w.count 64 e in
          let l : length (flying_of w) ≡ 64 = flying_full h in
          pushed_full f h ∙ sym (take-append-le 64 (flying_of w) (f ∷ []) (omega arith) ∙ flying_all)

  pub join_none : (p : ℕ) (d : Dispatch) → d ≡ None → flying_of w ≡ take most_frames (flying_of w ++ joining p d)
  unfolding joining
  join_none p d e = rw e (sym (ap (take most_frames) (append-nil (flying_of w)) ∙ flying_all))

  pub join_one : (r : Frames) (p : ℕ) (d : Dispatch) (frame : Frame) (to : ℕ) → d ≡ Some (frame, to) → r ≡ pushed w (record { from = p; frame = frame; to = to })
      → flying_of r ≡ take most_frames (flying_of w ++ joining p d)
  unfolding joining
  join_one r p d frame to e x = rw e (ap flying_of x ∙ flying_pushed (record { from = p; frame = frame; to = to }))

-- ---- one less: the frames behind the oldest move down, one after the other

abbrev pub Shifted : List Flying → List Flying → ℕ → Type 0
Shifted xs items i = take (i - 1) items ≡ drop 1 (take i xs)

pub shift_first : (xs items : List Flying) → Shifted xs items 1
shift_first [] items = refl
shift_first (f ∷ fs) items = refl

pub shift_turn : (xs items : List Flying) (i : ℕ) (f d : Flying) → 1 ≤ i → i < length xs → i ≤ length items → Shifted xs items i → f ≡ get_or xs i d
    → Shifted xs (set items (i - 1) f) (i + 1)
shift_turn xs items i f d one more room s e =
    let back : i + 1 - 1 ≡ suc (i - 1) = omega arith in
    let long : length (take i xs) ≡ i = length-take-le i xs (omega arith) in
    ap (λ (k : ℕ). take k (set items (i - 1) f)) back
    ∙ take-suc-set items (i - 1) f (omega arith)
    ∙ ap (λ (l : List Flying). l ++ (f ∷ [])) s
    ∙ sym (drop-append-le 1 (take i xs) (f ∷ []) (omega arith))
    ∙ ap (λ (l : List Flying). drop 1 l) (ap (λ (g : Flying). take i xs ++ (g ∷ [])) e ∙ sym (take-suc xs i d more) ∙ ap (λ (k : ℕ). take k xs) (sym (add-one i)))

pub shift_done : (xs items : List Flying) (i n : ℕ) → 1 ≤ i → n ≡ length xs → n ≤ i → i - 1 ≤ n - 1 → Shifted xs items i → take (n - 1) items ≡ drop 1 xs
shift_done xs items i n one size past near s =
    let same : n - 1 ≡ i - 1 = omega arith in
    ap (λ (k : ℕ). take k items) same ∙ s ∙ ap (λ (l : List Flying). drop 1 l) (take_all i xs (omega arith))

pub some_length : (n : ℕ) → (n ≡ 0 → ⊥) → 0 < n
some_length zero o = absurd (o refl)
some_length (suc n) o = omega arith

-- what lies first, whatever stands for no frame
pub first_any : (xs : List Flying) (d e : Flying) → 0 < length xs → get_or xs 0 d ≡ get_or xs 0 e
first_any [] d e h = absurd (omega arith)
first_any (x ∷ xs) d e h = refl
