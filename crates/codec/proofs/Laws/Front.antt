-- What stands in front of other octets reads as it does alone. Assumes nothing.
use mathlib.Core.Path.{◌≡◌, refl, ap, ◌∙◌}
use mathlib.Core.Bool.{Bool, true, false, cond, ◌||◌}
use mathlib.Core.List.{List, [], ◌∷◌, ◌++◌}
use Prim.Native.Nat.{ℕ, zero, suc, ◌+◌, ◌-◌, ◌*◌, ◌/◌, ◌%◌, ◌^◌, ◌≤◌, ◌<◌}
use native.Mathlib.Omega.{arith}
use lib.Dec.{eqb}
use lib.ListN.{length, get_or, get_or-append}
use Rattle.codec.specs.Bits.{bit, bits}
use Rattle.codec.specs.Ring.{form, count, stride, file_octets, member_at, all_channels, channels_at, channels_of, is_open, filled, ring_of, listens}
use Rattle.codec.proofs.Laws.Ring.{member_within}

module _ (f t : List ℕ) where
  bit_front : (j : ℕ) → j < length f * 8 → bit (f ++ t) j ≡ bit f j
  bit_front j h = ap (λ (x : ℕ). x / 2 ^ (7 - j % 8) % 2) (get_or-append f t 0 (j / 8) (omega arith))

  pub bits_front : (at k : ℕ) → at + k ≤ length f * 8 → bits (f ++ t) at k ≡ bits f at k
  unfolding bits
  bits_front at zero h = refl
  bits_front at (suc k) h =
      ap (λ (x : ℕ). x * 2 + bit (f ++ t) (at + k)) (bits_front at k (omega arith))
      ∙ ap (λ (x : ℕ). bits f at k * 2 + x) (bit_front (at + k) (omega arith))

  module _ (long : 2 ≤ length f) where
    pub form_front : form (f ++ t) ≡ form f
    form_front = bits_front 0 4 (omega arith)

    pub count_front : count (f ++ t) ≡ count f
    count_front = ap (λ (k : ℕ). k + 1) (bits_front 4 6 (omega arith))

    member_front : (i : ℕ) → member_at (f ++ t) i ≡ member_at f i
    member_front i = ap (λ (k : ℕ). file_octets k i) form_front

    -- a member's open channels
    channels_front : (i : ℕ) → member_at f i + stride (form f) ≤ length f → channels_at (f ++ t) i ≡ channels_at f i
    channels_front i within =
        ap (λ (k : ℕ). cond (eqb k 2) (bits (f ++ t) (member_at (f ++ t) i * 8 + 48) 8) all_channels) form_front
        ∙ ap (λ (k : ℕ). cond (eqb (form f) 2) (bits (f ++ t) (k * 8 + 48) 8) all_channels) (member_front i)
        ∙ go (eqb (form f) 2) within
      where
        go : (b : Bool) → member_at f i + cond b 7 6 ≤ length f → cond b (bits (f ++ t) (member_at f i * 8 + 48) 8) all_channels ≡ cond b (bits f (member_at f i * 8 + 48) 8) all_channels
        go true w = bits_front (member_at f i * 8 + 48) 8 (omega (arith, w))
        go false w = refl

    all_front : (n : ℕ) → member_at f n ≤ length f → channels_of (f ++ t) n ≡ channels_of f n
    unfolding channels_of
    all_front zero h = refl
    all_front (suc n) h =
        let w : member_at f n + stride (form f) ≤ member_at f (suc n) = member_within (form f) n (suc n) (omega arith) in
        ap (λ (l : List ℕ). l ++ (channels_at (f ++ t) n ∷ [])) (all_front n (omega (arith, w)))
        ∙ ap (λ (k : ℕ). channels_of f n ++ (k ∷ [])) (channels_front n (omega (arith, w)))

    -- who listens
    pub listens_front : (p channel : ℕ) → member_at f (count f) ≤ length f → listens (ring_of (f ++ t)) p channel ≡ listens (ring_of f) p channel
    unfolding listens ring_of
    listens_front p channel within =
        let n : count (f ++ t) ≡ count f = count_front in
        let c : channels_of (f ++ t) (count (f ++ t)) ≡ channels_of f (count f) = ap (channels_of (f ++ t)) n ∙ all_front (count f) within in
        ap (λ (k : ℕ). lib.Dec.leb k p || (lib.Dec.ltb 7 channel || is_open (get_or (filled (channels_of (f ++ t) (count (f ++ t)))) p 0) channel)) n
        ∙ ap (λ (l : List ℕ). lib.Dec.leb (count f) p || (lib.Dec.ltb 7 channel || is_open (get_or (filled l) p 0) channel)) c
