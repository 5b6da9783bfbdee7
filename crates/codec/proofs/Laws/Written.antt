-- What a ring file that is written of good fields reads as. Assumes nothing.
use mathlib.Core.Path.{◌≡◌, refl, sym, ap, ◌∙◌}
use mathlib.Core.Bool.{Bool, true, false, cond, not}
use mathlib.Core.List.{List, [], ◌∷◌, ◌++◌}
use Prim.Native.Nat.{ℕ, zero, suc, ◌+◌, ◌-◌, ◌*◌, ◌^◌, ◌<◌, ◌≤◌, zero-le, suc-le-suc}
use native.Mathlib.Nat.{mul-zero, mul-suc, add_comm}
use native.Mathlib.Omega.{arith}
use borrow.Author.Tests.{le-ltb, eq-eqb, ne_eqb, eqb-true, eqb-false}
use lib.Dec.{eqb}
use lib.ListN.{length, take, drop, get_or, length-append}
use lib.Seq.{take-length, take-suc, drop-drop, drop-append-add}
use Rattle.codec.specs.Octets.{Octets, octets, number}
use Rattle.codec.specs.Bits.{bits}
use Rattle.codec.specs.Ring.{form, others, limit, last_bits, version, count, head_length, stride, file_octets, member_at, addresses_of, all_channels, channels_at, channels_of, is_form, last_bad, head_tests, head_refusal, last_for, member_octets, members_octets}
use Rattle.codec.proofs.Laws.Octets.{back, octets_small, below_append}
use Rattle.codec.proofs.Laws.Order.{first_passed}
use Rattle.codec.proofs.Laws.Bits.{bits_below, bits_join, bits_octets}
use Rattle.codec.proofs.Laws.Ring.{member_within, stride_least}
use Rattle.codec.proofs.Laws.Channels.{all_in, said_in}
use Rattle.codec.proofs.Laws.Members.{length_member, length_members}

-- ---- octets

member_small : (f a c : ℕ) → Octets (member_octets f a c)
member_small f a c = below_append 256 (octets 6 a) (cond (eqb f 2) (octets 1 c) []) (octets_small 6 a) (go (eqb f 2))
  where
    go : (b : Bool) → Octets (cond b (octets 1 c) [])
    go true = octets_small 1 c
    go false = λ i. suc-le-suc zero-le

members_small : (f : ℕ) (ms cs : List ℕ) → Octets (members_octets f ms cs)
unfolding members_octets
members_small f [] cs i = suc-le-suc zero-le
members_small f (a ∷ ms) [] i = suc-le-suc zero-le
members_small f (a ∷ ms) (c ∷ cs) i = below_append 256 (member_octets f a c) (members_octets f ms cs) (member_small f a c) (members_small f ms cs) i

-- ---- each member stands at its place

-- behind the first member
behind : (f a c k : ℕ) (ms cs : List ℕ) → drop (stride f * suc k) (member_octets f a c ++ members_octets f ms cs) ≡ drop (stride f * k) (members_octets f ms cs)
behind f a c k ms cs =
    let e : stride f * suc k ≡ length (member_octets f a c) + stride f * k =
    mul-suc (stride f) k ∙ add_comm (stride f * k) (stride f) ∙ ap (λ (n : ℕ). n + stride f * k) (sym (length_member f a c)) in
    ap (λ (n : ℕ). drop n (member_octets f a c ++ members_octets f ms cs)) e ∙ drop-append-add (member_octets f a c) (members_octets f ms cs) (stride f * k)

first_six : (f a c : ℕ) (rest : List ℕ) → take 6 (member_octets f a c ++ rest) ≡ octets 6 a
first_six f a c rest = refl

address_at : (f : ℕ) (ms cs : List ℕ) (k : ℕ) → length ms ≡ length cs → k < length ms → get_or ms k 0 < 2 ^ 48
    → number (take 6 (drop (stride f * k) (members_octets f ms cs))) ≡ get_or ms k 0
unfolding members_octets
address_at f [] cs k same h fits = absurd (omega arith)
address_at f (a ∷ ms) [] k same h fits = absurd (omega (arith, same))
address_at f (a ∷ ms) (c ∷ cs) zero same h fits =
    ap (λ (n : ℕ). number (take 6 (drop n (member_octets f a c ++ members_octets f ms cs)))) (mul-zero (stride f)) ∙ back 6 a fits
address_at f (a ∷ ms) (c ∷ cs) (suc k) same h fits =
    ap (λ (l : List ℕ). number (take 6 l)) (behind f a c k ms cs) ∙ address_at f ms cs k (omega (arith, same)) (omega arith) fits

channels_at_lem : (f : ℕ) (ms cs : List ℕ) (k : ℕ) → f ≡ 2 → length ms ≡ length cs → k < length ms → get_or cs k 0 < 256
    → number (take 1 (drop 6 (drop (stride f * k) (members_octets f ms cs)))) ≡ get_or cs k 0
unfolding members_octets
channels_at_lem f [] cs k two same h fits = absurd (omega arith)
channels_at_lem f (a ∷ ms) [] k two same h fits = absurd (omega (arith, same))
channels_at_lem f (a ∷ ms) (c ∷ cs) zero two same h fits =
    let both : member_octets f a c ≡ octets 6 a ++ octets 1 c = rw (eq-eqb f 2 two) in
    ap (λ (n : ℕ). number (take 1 (drop 6 (drop n (member_octets f a c ++ members_octets f ms cs))))) (mul-zero (stride f))
    ∙ ap (λ (l : List ℕ). number (take 1 (drop 6 (l ++ members_octets f ms cs)))) both
    ∙ back 1 c fits
channels_at_lem f (a ∷ ms) (c ∷ cs) (suc k) two same h fits =
    ap (λ (l : List ℕ). number (take 1 (drop 6 l))) (behind f a c k ms cs) ∙ channels_at_lem f ms cs k two (omega (arith, same)) (omega arith) fits

-- ---- the file, field by field

module _ (f l v : ℕ) (ms cs : List ℕ) (f-fits : f ≤ 2) (same : length ms ≡ length cs) (some : 2 ≤ length ms) (few : length ms ≤ 64) (l-fits : l < 16) (v-fits : v < 4) where
  abbrev num : ℕ
  num = f * 2 ^ 12 + (length ms - 1) * 2 ^ 6 + l * 2 ^ 2 + last_for f v

  abbrev pub s : List ℕ
  s = octets 2 num ++ members_octets f ms cs

  pub small : Octets s
  small = below_append 256 (octets 2 num) (members_octets f ms cs) (octets_small 2 num) (members_small f ms cs)

  pub long : length s ≡ file_octets f (length ms)
  long = length-append (octets 2 num) (members_octets f ms cs) ∙ ap (λ (n : ℕ). 2 + n) (length_members f ms cs same)

  at_least_two : 2 ≤ length s
  at_least_two = rw long (omega arith)

  last_fits : last_for f v < 4
  last_fits = go (eqb f 2)
    where
      go : (b : Bool) → cond b v 0 < 4
      go true = v-fits
      go false = omega arith

  head_is : num ≡ ((form s * 2 ^ 6 + others s) * 2 ^ 4 + limit s) * 2 ^ 2 + last_bits s
  head_is =
      let fits : num < 256 ^ 2 = omega (arith, last_fits) in
      sym (back 2 num fits)
      ∙ sym (bits_octets s 0 2 small at_least_two)
      ∙ bits_join s 0 14 2
      ∙ ap (λ (k : ℕ). k * 2 ^ 2 + last_bits s) (bits_join s 0 10 4 ∙ ap (λ (k : ℕ). k * 2 ^ 4 + limit s) (bits_join s 0 4 6))

  pub record Head : Type 0 where
    pub form_is : form s ≡ f
    pub others_is : others s ≡ length ms - 1
    pub limit_is : limit s ≡ l
    pub last_is : last_bits s ≡ last_for f v

  pub head : Head
  head =
      let a : form s < 16 = bits_below s 0 4 in
      let b : others s < 64 = bits_below s 4 6 in
      let c : limit s < 16 = bits_below s 10 4 in
      let d : last_bits s < 4 = bits_below s 14 2 in
      let z : last_for f v < 4 = last_fits in
      let e : f * 4096 + (length ms - 1) * 64 + l * 4 + last_for f v ≡ ((form s * 64 + others s) * 16 + limit s) * 4 + last_bits s = head_is in
      record { form_is = omega arith; others_is = omega arith; limit_is = omega arith; last_is = omega arith }

  pub count_is : count s ≡ length ms
  count_is = omega (arith, head.others_is)

  at_is : (k : ℕ) → member_at s k ≡ file_octets f k
  at_is k = ap (λ (x : ℕ). file_octets x k) head.form_is

  within : (k : ℕ) → k < length ms → file_octets f k + stride f ≤ length s
  within k h = rw long (member_within f k (length ms) h)

  -- ---- the addresses

  address : (k : ℕ) → k < length ms → get_or ms k 0 < 2 ^ 48 → bits s (member_at s k * 8) 48 ≡ get_or ms k 0
  address k h fits =
      let w : file_octets f k + stride f ≤ length s = within k h in
      let m : 6 ≤ stride f = stride_least f in
      ap (λ (x : ℕ). bits s (x * 8) 48) (at_is k)
      ∙ bits_octets s (file_octets f k) 6 small (omega (arith, w, m))
      ∙ ap (λ (x : List ℕ). number (take 6 x)) (drop-append-add (octets 2 num) (members_octets f ms cs) (stride f * k))
      ∙ address_at f ms cs k same h fits

  first_addresses : ((i : ℕ) → get_or ms i 0 < 2 ^ 48) → (k : ℕ) → k ≤ length ms → addresses_of s k ≡ take k ms
  unfolding addresses_of
  first_addresses fits zero h = refl
  first_addresses fits (suc k) h =
      ap (λ (x : List ℕ). x ++ (bits s (member_at s k * 8) 48 ∷ [])) (first_addresses fits k (omega arith))
      ∙ ap (λ (x : ℕ). take k ms ++ (x ∷ [])) (address k h (fits k))
      ∙ sym (take-suc ms k 0 h)

  pub addresses : ((i : ℕ) → get_or ms i 0 < 2 ^ 48) → addresses_of s (count s) ≡ ms
  addresses fits = ap (addresses_of s) count_is ∙ first_addresses fits (length ms) (omega arith) ∙ take-length ms

  -- ---- the open channels

  -- in form 2 those written
  said : (k : ℕ) → k < length ms → get_or cs k 0 < 256 → f ≡ 2 → channels_at s k ≡ get_or cs k 0
  said k h fits two =
      let w : file_octets f k + stride f ≤ length s = within k h in
      let m : stride f ≡ 7 = ap stride two in
      let place : member_at s k * 8 + 48 ≡ (file_octets f k + 6) * 8 = omega (arith, at_is k) in
      said_in s k (head.form_is ∙ two)
      ∙ ap (λ (x : ℕ). bits s x 8) place
      ∙ bits_octets s (file_octets f k + 6) 1 small (omega (arith, w, m))
      ∙ ap (λ (x : List ℕ). number (take 1 x)) (sym (drop-drop 6 (file_octets f k) s))
      ∙ ap (λ (x : List ℕ). number (take 1 (drop 6 x))) (drop-append-add (octets 2 num) (members_octets f ms cs) (stride f * k))
      ∙ channels_at_lem f ms cs k two same h fits

  -- and in form 1 all, which is what was written where all are open
  channel : ((f ≡ 2 → ⊥) → (i : ℕ) → i < length ms → get_or cs i 0 ≡ all_channels) → (k : ℕ) → k < length ms → get_or cs k 0 < 256 → channels_at s k ≡ get_or cs k 0
  channel open_all k h fits = go (eqb f 2) refl
    where
      go : (b : Bool) → eqb f 2 ≡ b → channels_at s k ≡ get_or cs k 0
      go true e = said k h fits (eqb-true f 2 e)
      go false e = all_in s k (λ z. eqb-false f 2 e (sym head.form_is ∙ z)) ∙ sym (open_all (eqb-false f 2 e) k h)

  module _ (fits : (i : ℕ) → get_or cs i 0 < 256) (open_all : (f ≡ 2 → ⊥) → (i : ℕ) → i < length ms → get_or cs i 0 ≡ all_channels) where
    first_channels : (k : ℕ) → k ≤ length ms → channels_of s k ≡ take k cs
    unfolding channels_of
    first_channels zero h = refl
    first_channels (suc k) h =
        ap (λ (x : List ℕ). x ++ (channels_at s k ∷ [])) (first_channels k (omega arith))
        ∙ ap (λ (x : ℕ). take k cs ++ (x ∷ [])) (channel open_all k h (fits k))
        ∙ sym (take-suc cs k 0 (omega (arith, same)))

    pub channels : channels_of s (count s) ≡ cs
    channels = ap (channels_of s) (count_is ∙ same) ∙ first_channels (length cs) (omega (arith, same)) ∙ take-length cs

  -- ---- the head's checks, and the version

  pub version_is : ((f ≡ 2 → ⊥) → v ≡ 1) → version s ≡ v
  version_is one = go (eqb f 2) refl
    where
      go : (b : Bool) → eqb f 2 ≡ b → version s ≡ v
      go true e =
          let two : f ≡ 2 = eqb-true f 2 e in
          let last : last_for f v ≡ v = rw (eq-eqb f 2 two) in
          rw (eq-eqb (form s) 2 (head.form_is ∙ two)) (head.last_is ∙ last)
      go false e = rw (ne_eqb (form s) 2 (λ z. eqb-false f 2 e (sym head.form_is ∙ z))) (sym (one (eqb-false f 2 e)))

  pub head_passes : is_form f ≡ true → last_bad f (last_for f v) ≡ false → 1 ≤ l → head_refusal s ≡ 0
  unfolding head_refusal
  head_passes a_form good_last some_retry =
      first_passed 0 (head_tests s) (
        le-ltb (length s) head_length at_least_two,
        (
          ap (λ (x : ℕ). not (is_form x)) head.form_is ∙ ap not a_form,
          (
            ap (λ (x : ℕ). last_bad x (last_bits s)) head.form_is ∙ ap (last_bad f) head.last_is ∙ good_last,
            (
              ne_eqb (others s) 0 (λ z. omega (arith, head.others_is)),
              (
                ne_eqb (limit s) 0 (λ z. omega (arith, head.limit_is)),
                (ap not (eq-eqb (length s) (member_at s (count s)) (long ∙ sym (at_is (count s) ∙ ap (file_octets f) count_is))), tt),
              ),
            ),
          ),
        ),
      )
