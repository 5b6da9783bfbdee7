-- The program need not read a file that is too long to its end: what it prints is told by its first octets. Assumes nothing.
use mathlib.Core.Path.{◌≡◌, refl, sym, ap, ◌∙◌}
use mathlib.Core.Bool.{Bool, true, false, not}
use mathlib.Core.List.{List, [], ◌∷◌}
use Prim.Native.Nat.{ℕ, zero, suc, ◌+◌, ◌*◌, ◌/◌, ◌<◌, ◌≤◌}
use native.Mathlib.Omega.{arith}
use borrow.Author.Tests.{le-ltb, ne_eqb, leb-true, leb-false, eqb-true, eqb-false}
use lib.Dec.{leb, eqb}
use lib.ListN.{length, take}
use lib.Seq.{take_all, length-take-le, get_or-take}
use Rattle.codec.specs.Order.{first_of}
use Rattle.codec.specs.Bits.{bits}
use Rattle.codec.specs.Ring.{form, others, count, limit, last_bits, file_octets, is_form, last_bad, last_number, head_refusal, ring_refusal}
use Rattle.codec.proofs.Laws.Bits.{bits_below}
use Rattle.codec.proofs.Laws.Ring.{octets_most, head_good, head_passed, refused_early}
use Rattle.parts.specs.Choose.{pick}
use Rattle.capture.specs.Record.{most_octets, capture_number}
use Rattle.capture.proofs.Theorems.Numbers.{start_enough, taken_whole}
use Rattle.replay.specs.Runs.{refusal, output}

-- ---- the first octets have the first bits

bits_start : (s : List ℕ) (k at w : ℕ) → at + w ≤ k * 8 → bits (take k s) at w ≡ bits s at w
unfolding bits
bits_start s k at zero h = refl
bits_start s k at (suc w) h =
    let here : (at + w) / 8 < k = omega arith in
    rw (bits_start s k at w (omega arith), get_or-take k s ((at + w) / 8) 0 here)

-- ---- the ring file

-- what a head is refused for that is too long for any ring
abbrev LongTests : List ℕ → List (Bool × ℕ)
LongTests file = (not (is_form (form file)), 2) ∷ (last_bad (form file) (last_bits file), last_number (form file)) ∷ (eqb (others file) 0, 4) ∷ (eqb (limit file) 0, 5) ∷ []

module _ (file : List ℕ) (h : 450 < length file) where
  other_length : length file ≡ file_octets (form file) (count file) → ⊥
  other_length e = omega (arith, h, e, octets_most (form file) (count file) (omega (arith, bits_below file 4 6)))

  head_long : head_refusal file ≡ first_of 1 (LongTests file)
  unfolding head_refusal
  head_long = rw (le-ltb (length file) 2 (omega arith), ne_eqb (length file) (file_octets (form file) (count file)) other_length)

  ring_long : ring_refusal file ≡ head_refusal file
  ring_long = refused_early file (λ e. other_length (head_good file e).sized)

pub ring_enough : (file : List ℕ) (k : ℕ) → 450 < k → ring_refusal (take k file) ≡ ring_refusal file
ring_enough file k h = go (leb (length file) k) refl
  where
    go : (b : Bool) → leb (length file) k ≡ b → ring_refusal (take k file) ≡ ring_refusal file
    go true e = ap ring_refusal (take_all k file (leb-true _ _ e))
    go false e =
        let more : k < length file = leb-false _ _ e in
        let long : length (take k file) ≡ k = length-take-le k file (omega arith) in
        let t : 450 < length (take k file) = rw long h in
        let u : 450 < length file = omega arith in
        ring_long (take k file) t
        ∙ head_long (take k file) t
        ∙ rw (bits_start file k 0 4 (omega arith), bits_start file k 14 2 (omega arith), bits_start file k 4 6 (omega arith), bits_start file k 10 4 (omega arith)) refl
        ∙ sym (head_long file u)
        ∙ sym (ring_long file u)

ring_whole : (file : List ℕ) (k : ℕ) → 450 < k → ring_refusal file ≡ 0 → take k file ≡ file
ring_whole file k h e =
    take_all k file (omega (arith, h, (head_good file (head_passed file e)).sized, octets_most (form file) (count file) (omega (arith, bits_below file 4 6))))

-- ---- what is printed

-- neither is refused where both are not
both_pass : (file s : List ℕ) → refusal file s ≡ 0 → (ring_refusal file ≡ 0) × (capture_number s ≡ 0)
unfolding refusal pick
both_pass file s e = go (eqb (ring_refusal file) 0) refl e
  where
    go : (b : Bool) → eqb (ring_refusal file) 0 ≡ b → pick b (capture_number s) (ring_refusal file) ≡ 0 → (ring_refusal file ≡ 0) × (capture_number s ≡ 0)
    go true h e' = (eqb-true _ _ h, e')
    go false h e' = absurd (eqb-false _ _ h e')

same_refusal : (file s : List ℕ) (k m : ℕ) → 450 < k → most_octets < m → refusal (take k file) (take m s) ≡ refusal file s
unfolding refusal
same_refusal file s k m hk hm = rw (ring_enough file k hk, start_enough s m hm)

pub enough_read : (file s : List ℕ) (k m : ℕ) → 450 < k → most_octets < m → output (take k file) (take m s) ≡ output file s
unfolding output pick
enough_read file s k m hk hm = go (eqb (refusal file s) 0) refl
  where
    same : refusal (take k file) (take m s) ≡ refusal file s
    same = same_refusal file s k m hk hm

    go : (b : Bool) → eqb (refusal file s) 0 ≡ b → output (take k file) (take m s) ≡ output file s
    go true e =
        let p = both_pass file s (eqb-true _ _ e) in
        rw (ring_whole file k hk p.0, taken_whole s m hm p.1)
    go false e = rw (same, e)
