-- Laws of bits: runs of them join, and at octet borders they are the octets' numbers. Assumes nothing.
use mathlib.Core.Path.{◌≡◌, refl, sym, ap, ◌∙◌}
use mathlib.Core.List.{List}
use Prim.Native.Nat.{ℕ, zero, suc, ◌+◌, ◌-◌, ◌*◌, ◌/◌, ◌%◌, ◌^◌, ◌<◌, ◌≤◌, zero-le, suc-le-suc}
use native.Mathlib.Nat.{pow-suc, mul_assoc, add-zero, add-suc, add_assoc, mod-lt, div-eq_of_lt, div-one, div-add-mod', div-div-eq-div-mul, le_of_lt}
use native.Mathlib.Numerals.{add-one}
use native.Mathlib.Omega.{arith}
use lib.Arith.{digits_lt}
use lib.ListN.{length, get_or}
use Rattle.codec.specs.Octets.{Octets, number_at}
use Rattle.codec.specs.Bits.{bit, bits}
use Rattle.codec.proofs.Laws.Octets.{number_more}

pub bits_below : (s : List ℕ) (at k : ℕ) → bits s at k < 2 ^ k
unfolding bits
bits_below s at zero = suc-le-suc zero-le
bits_below s at (suc k) = rw (pow-suc 2 k) (digits_lt (bits_below s at k) (mod-lt _ (suc-le-suc zero-le)))

-- two runs side by side are one
pub bits_join : (s : List ℕ) (at k m : ℕ) → bits s at (k + m) ≡ bits s at k * 2 ^ m + bits s (at + k) m
unfolding bits
bits_join s at k zero = ap (bits s at) (add-zero k) ∙ omega arith
bits_join s at k (suc m) =
    let wider : bits s at k * 2 ^ suc m ≡ bits s at k * 2 ^ m * 2 = ap (λ (n : ℕ). bits s at k * n) (pow-suc 2 m) ∙ sym (mul_assoc (bits s at k) (2 ^ m) 2) in
    rw (add-suc k m, bits_join s at k m, wider, ← add_assoc at k m) (omega arith)

bit_of : (s : List ℕ) (a i : ℕ) → i < 8 → bit s (a * 8 + i) ≡ get_or s a 0 / 2 ^ (7 - i) % 2
bit_of s a i h =
    let e : (a * 8 + i) / 8 ≡ a = omega arith in
    let f : (a * 8 + i) % 8 ≡ i = omega arith in
    rw (e, f)

-- the first bits of an octet are its high part
high_bits : (s : List ℕ) (a : ℕ) → get_or s a 0 < 256 → (i : ℕ) → i ≤ 8 → bits s (a * 8) i ≡ get_or s a 0 / 2 ^ (8 - i)
unfolding bits
high_bits s a small zero h = sym (div-eq_of_lt small)
high_bits s a small (suc i) h =
    let x : ℕ = get_or s a 0 in
    let e : 8 - i ≡ suc (8 - suc i) = omega arith in
    let f : 7 - i ≡ 8 - suc i = omega arith in
    rw (high_bits s a small i (le_of_lt h), bit_of s a i h, f, e, pow-suc 2 (8 - suc i), ← div-div-eq-div-mul x (2 ^ (8 - suc i)) 2)
    (div-add-mod' (x / 2 ^ (8 - suc i)) 2)

octet_bits : (s : List ℕ) (a : ℕ) → get_or s a 0 < 256 → bits s (a * 8) 8 ≡ get_or s a 0
octet_bits s a small = high_bits s a small 8 (omega arith) ∙ div-one (get_or s a 0)

-- at octet borders, bits are octets
pub bits_octets : (s : List ℕ) (a k : ℕ) → Octets s → a + k ≤ length s → bits s (a * 8) (k * 8) ≡ number_at s a k
unfolding bits
bits_octets s a zero o h = refl
bits_octets s a (suc k) o h =
    let e : suc k * 8 ≡ k * 8 + 8 = omega arith in
    let f : a * 8 + k * 8 ≡ (a + k) * 8 = omega arith in
    rw (e, bits_join s (a * 8) (k * 8) 8, f, octet_bits s (a + k) (o (a + k)), bits_octets s a k o (omega arith), ← add-one k)
    (sym (number_more s a k (omega arith)))
