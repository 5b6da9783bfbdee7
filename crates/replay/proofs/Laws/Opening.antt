-- Laws of a ring file's open channels in an array of 64. Assumes nothing.
use mathlib.Core.Path.{◌≡◌, sym, ap, subst, ◌∙◌}
use mathlib.Core.List.{List, ◌++◌}
use Prim.Native.Nat.{ℕ, zero, suc, ◌+◌, ◌-◌, ◌<◌, ◌≤◌}
use native.Mathlib.Numerals.{add-one}
use native.Mathlib.Omega.{arith}
use lib.ListN.{length, drop, set}
use Rattle.codec.specs.Octets.{laid, zeros}
use Rattle.codec.specs.Ring.{form, count, file_octets, member_at, channels_at, channels_of, ring_of}
use Rattle.codec.proofs.Laws.Octets.{length_zeros, laid_behind}
use Rattle.codec.proofs.Laws.Ring.{octets_grow, length_channels}
use Rattle.codec.proofs.Laws.Channels.{channels_get, channels_fit}

-- each octet has 8 bits
pub channels_small : (file : List ℕ) (i : ℕ) → channels_at file i < 256
channels_small file i = subst (λ (k : ℕ). k < 256) (channels_get file (suc i) i (omega arith)) (channels_fit file (suc i) i)

-- and lies within the file
pub member_in : (file : List ℕ) (i n : ℕ) → i < n → member_at file n ≤ length file → member_at file (i + 1) ≤ length file
member_in file i n h within =
    let g : file_octets (form file) (i + 1) ≤ file_octets (form file) n = octets_grow (form file) (i + 1) n (omega arith) in
    omega (arith, g, within)

-- one member more
pub channels_more : (file l : List ℕ) (i v : ℕ) → i < 64 → v ≡ channels_at file i → l ≡ laid (zeros 64) 0 (channels_of file i) → set l i v ≡ laid (zeros 64) 0 (channels_of file (i + 1))
unfolding channels_of
channels_more file l i v h ev e =
    let here : 0 + length (channels_of file i) ≡ i = omega (arith, length_channels file i) in
    ap (set l i) ev
    ∙ ap (λ (o : List ℕ). set o i (channels_at file i)) e
    ∙ ap (λ (k : ℕ). set (laid (zeros 64) 0 (channels_of file i)) k (channels_at file i)) (sym here)
    ∙ laid_behind (zeros 64) (channels_of file i) 0 (channels_at file i) (omega (arith, h, here, length_zeros 64))
    ∙ rw (add-one i)

drop_zeros : (k n : ℕ) → drop k (zeros n) ≡ zeros (n - k)
drop_zeros zero n = let e : n ≡ n - 0 = omega arith in ap zeros e
drop_zeros (suc k) zero = let e : 0 ≡ 0 - suc k = omega arith in ap zeros e
drop_zeros (suc k) (suc n) = let e : n - k ≡ suc n - suc k = omega arith in drop_zeros k n ∙ ap zeros e

-- all of them
pub channels_all : (file l : List ℕ) (n : ℕ) → n ≡ count file → l ≡ laid (zeros 64) 0 (channels_of file n) → l ≡ (ring_of file).channels
unfolding ring_of
channels_all file l n en e =
    let cs : List ℕ = channels_of file (count file) in
    let all : 0 + length cs ≡ length cs = omega arith in
    e ∙ ap (λ (m : ℕ). laid (zeros 64) 0 (channels_of file m)) en ∙ ap (λ (x : List ℕ). cs ++ x) (ap (λ (k : ℕ). drop k (zeros 64)) all ∙ drop_zeros (length cs) 64)
