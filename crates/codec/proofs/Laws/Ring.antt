-- Laws of the ring file's checks. Assumes nothing.
use mathlib.Core.Path.{◌≡◌, refl, sym, ap, ◌∙◌}
use mathlib.Core.Bool.{Bool, true, false, cond}
use mathlib.Core.List.{List, [], ◌∷◌}
use Prim.Native.Nat.{ℕ, zero, suc, ◌+◌, ◌-◌, ◌*◌, ◌^◌, ◌<◌, ◌≤◌, zero-le}
use native.Mathlib.Nat.{add_assoc, mul-suc, mul-le-mul, mul-le-mul_left}
use native.Mathlib.Numerals.{add-one}
use native.Mathlib.Omega.{arith}
use borrow.Author.Tests.{lt-ltb, le-ltb, ltb-false, eqb-true, eqb-false, not-false, eq-eqb, ne_eqb}
use lib.Dec.{eqb}
use lib.ListN.{length, take, drop, get_or, set, length-append, drop_of_length-le}
use lib.Seq.{take-suc, drop-cons, take_at}
use Rattle.codec.specs.Order.{first_of}
use Rattle.codec.specs.Octets.{laid, zeros}
use Rattle.codec.specs.Bits.{bits}
use Rattle.codec.specs.declared.head.HeadBits.{HeadBits}
use Rattle.codec.specs.Ring.{form, others, limit, last_bits, head_bits, count_of, count, head_length, stride, file_octets, member_at, addresses_of, channels_at, channels_of, is_form, last_bad, last_number, head_tests, address_tests, addresses_tests, head_refusal, field_refusal, address_refusal, addresses_refusal, ring_refusal, filled, ring_of, no_ring, read_ring}
use Rattle.codec.proofs.Laws.Bits.{bits_below}
use Rattle.codec.proofs.Laws.Octets.{below_append, laid_behind, laid_start}
use Rattle.codec.proofs.Laws.Order.{Apart, first_append, none_gives, none_holds, first_passed, first_none, first_some}

-- ---- the strides

pub stride_most : (f : ℕ) → stride f ≤ 7
stride_most f = go (eqb f 2)
  where
    go : (b : Bool) → cond b 7 6 ≤ 7
    go true = omega arith
    go false = omega arith

pub stride_least : (f : ℕ) → 6 ≤ stride f
stride_least f = go (eqb f 2)
  where
    go : (b : Bool) → 6 ≤ cond b 7 6
    go true = omega arith
    go false = omega arith

pub octets_step : (f n : ℕ) → file_octets f (n + 1) ≡ file_octets f n + stride f
octets_step f n =
    ap (λ (k : ℕ). head_length + stride f * k) (add-one n)
    ∙ ap (λ (k : ℕ). head_length + k) (mul-suc (stride f) n)
    ∙ sym (add_assoc head_length (stride f * n) (stride f))

pub octets_grow : (f m n : ℕ) → m ≤ n → file_octets f m ≤ file_octets f n
octets_grow f m n h = let p : stride f * m ≤ stride f * n = mul-le-mul_left (stride f) h in omega (arith, p)

pub octets_most : (f n : ℕ) → n ≤ 64 → file_octets f n ≤ 450
octets_most f n h = let p : stride f * n ≤ 7 * 64 = mul-le-mul (stride_most f) h in omega (arith, p)

pub octets_room : (f i : ℕ) → i < 64 → file_octets f i + 7 ≤ 450
octets_room f i h =
    let few : i ≤ 63 = omega arith in
    let p : stride f * i ≤ 7 * 63 = mul-le-mul (stride_most f) few in
    omega (arith, p)

-- a member more has its stride behind the others
pub member_within : (f i n : ℕ) → i < n → file_octets f i + stride f ≤ file_octets f n
member_within f i n h = rw (← octets_step f i) (octets_grow f (i + 1) n (rw (add-one i) h))

-- ---- the addresses one after the other

module _ (ms : List ℕ) (i : ℕ) (more : i < length ms) where
  abbrev these : List (Bool × ℕ)
  these = address_tests (take i ms) (get_or ms i 0)

  abbrev later : ℕ
  later = first_of 0 (addresses_tests (take (i + 1) ms) (drop (i + 1) ms))

  split : first_of 0 (addresses_tests (take i ms) (drop i ms)) ≡ first_of later these
  split = rw (drop-cons ms i 0 more, add-one i, take-suc ms i 0 more)

  pub addresses_more : address_refusal (take i ms) (get_or ms i 0) ≡ 0 → first_of 0 (addresses_tests (take i ms) (drop i ms)) ≡ later
  unfolding address_refusal
  addresses_more e = split ∙ first_none 0 later these ((λ z. omega arith), ((λ z. omega arith), tt)) e

  pub addresses_here : (address_refusal (take i ms) (get_or ms i 0) ≡ 0 → ⊥) → first_of 0 (addresses_tests (take i ms) (drop i ms)) ≡ address_refusal (take i ms) (get_or ms i 0)
  unfolding address_refusal
  addresses_here n = split ∙ first_some 0 later these n

pub addresses_none : (ms : List ℕ) (i : ℕ) → length ms ≤ i → first_of 0 (addresses_tests (take i ms) (drop i ms)) ≡ 0
addresses_none ms i h = rw (drop_of_length-le ms h)

-- ---- the addresses in their array

pub length_addresses : (file : List ℕ) (n : ℕ) → length (addresses_of file n) ≡ n
unfolding addresses_of
length_addresses file zero = refl
length_addresses file (suc n) = length-append (addresses_of file n) (bits file (member_at file n * 8) 48 ∷ []) ∙ ap (λ (k : ℕ). k + 1) (length_addresses file n) ∙ add-one n

pub length_channels : (file : List ℕ) (n : ℕ) → length (channels_of file n) ≡ n
unfolding channels_of
length_channels file zero = refl
length_channels file (suc n) = length-append (channels_of file n) (channels_at file n ∷ []) ∙ ap (λ (k : ℕ). k + 1) (length_channels file n) ∙ add-one n

-- each address has 48 bits
pub addresses_fit : (file : List ℕ) (n i : ℕ) → get_or (addresses_of file n) i 0 < 2 ^ 48
unfolding addresses_of
addresses_fit file zero i = omega arith
addresses_fit file (suc n) i = below_append (2 ^ 48) (addresses_of file n) (bits file (member_at file n * 8) 48 ∷ []) (addresses_fit file n) one i
  where
    one : (i : ℕ) → get_or (bits file (member_at file n * 8) 48 ∷ []) i 0 < 2 ^ 48
    one zero = bits_below file (member_at file n * 8) 48
    one (suc i) = omega arith

-- one address more behind those that are laid over
pub addresses_more_laid : (file l l₁ : List ℕ) (i : ℕ) → i < length l → l₁ ≡ laid l 0 (addresses_of file i)
    → set l₁ i (bits file (member_at file i * 8) 48) ≡ laid l 0 (addresses_of file (i + 1))
unfolding addresses_of
addresses_more_laid file l l₁ i h e =
    let here : 0 + length (addresses_of file i) ≡ i = omega (arith, length_addresses file i) in
    ap (λ (o : List ℕ). set o i (bits file (member_at file i * 8) 48)) e
    ∙ ap (λ (n : ℕ). set (laid l 0 (addresses_of file i)) n (bits file (member_at file i * 8) 48)) (sym here)
    ∙ laid_behind l (addresses_of file i) 0 (bits file (member_at file i * 8) 48) (rw here h)
    ∙ rw (add-one i)

-- the start of an array that a file's addresses are laid over
pub members_laid : (file l l₁ : List ℕ) (n : ℕ) → l₁ ≡ laid l 0 (addresses_of file n) → take n l₁ ≡ addresses_of file n
members_laid file l l₁ n e =
    ap (λ (k : ℕ). take k l₁) (sym (length_addresses file n)) ∙ laid_start l l₁ (addresses_of file n) e

pub members_filled : (members : List ℕ) (n : ℕ) → length members ≡ n → take n (filled members) ≡ members
members_filled members n e = take_at members (zeros (64 - length members)) n e

-- ---- the refusals before the addresses, and all of them

-- what a file is whose head passes
pub record HeadGood (file : List ℕ) : Type 0 where
  pub long : 2 ≤ length file
  pub a_form : is_form (form file) ≡ true
  pub last_good : last_bad (form file) (last_bits file) ≡ false
  pub another : others file ≡ 0 → ⊥
  pub some_limit : limit file ≡ 0 → ⊥
  pub sized : length file ≡ member_at file (count file)

last_apart : (f : ℕ) → last_number f ≡ 0 → ⊥
last_apart f = go (eqb f 2)
  where
    go : (b : Bool) → ◌≡◌ {A = ℕ} (cond b 27 3) 0 → ⊥
    go true z = omega (arith, z)
    go false z = omega (arith, z)

-- no refusal is 0
head_apart : (file : List ℕ) → Apart 0 (head_tests file)
head_apart file = ((λ z. omega arith), ((λ z. omega arith), (last_apart (form file), ((λ z. omega arith), ((λ z. omega arith), ((λ z. omega arith), tt))))))

pub head_good : (file : List ℕ) → head_refusal file ≡ 0 → HeadGood file
unfolding head_refusal
head_good file e =
    let n = none_holds 0 (head_tests file) (head_apart file) e in
    record {
      long = ltb-false _ _ n.0;
      a_form = not-false _ n.1.0;
      last_good = n.1.1.0;
      another = eqb-false _ _ n.1.1.1.0;
      some_limit = eqb-false _ _ n.1.1.1.1.0;
      sized = eqb-true _ _ (not-false _ n.1.1.1.1.1.0);
    }

-- a file that is too short for a head, and one that is not
pub head_short : (file : List ℕ) → length file < head_length → head_refusal file ≡ 1
unfolding head_refusal
head_short file h = rw (lt-ltb (length file) head_length h)

pub head_fields : (file : List ℕ) → head_length ≤ length file → head_refusal file ≡ field_refusal (head_bits file) (length file)
unfolding head_refusal field_refusal
head_fields file h = rw (le-ltb (length file) head_length h)

-- the refusals of the fields, in their order
module _ (h : HeadBits) (size : ℕ) where
  pub no_form : is_form h.form ≡ false → field_refusal h size ≡ 2
  unfolding field_refusal
  no_form f = rw f

  module _ (f : is_form h.form ≡ true) where
    pub bad_last : last_bad h.form h.last ≡ true → field_refusal h size ≡ last_number h.form
    unfolding field_refusal
    bad_last l = rw (f, l)

    module _ (l : last_bad h.form h.last ≡ false) where
      pub no_others : h.others ≡ 0 → field_refusal h size ≡ 4
      unfolding field_refusal
      no_others o = rw (f, l, o)

      module _ (o : h.others ≡ 0 → ⊥) where
        pub no_limit : h.limit ≡ 0 → field_refusal h size ≡ 5
        unfolding field_refusal
        no_limit r = rw (f, l, ne_eqb h.others 0 o, r)

        module _ (r : h.limit ≡ 0 → ⊥) where
          pub bad_size : (size ≡ file_octets h.form (count_of h) → ⊥) → field_refusal h size ≡ 1
          unfolding field_refusal
          bad_size n = rw (f, l, ne_eqb h.others 0 o, ne_eqb h.limit 0 r, ne_eqb size (file_octets h.form (count_of h)) n)

          pub no_refusal : size ≡ file_octets h.form (count_of h) → field_refusal h size ≡ 0
          unfolding field_refusal
          no_refusal e = rw (f, l, ne_eqb h.others 0 o, ne_eqb h.limit 0 r, eq-eqb size (file_octets h.form (count_of h)) e)

-- N − 1 is of 6 bits
pub few_others : (file : List ℕ) (h : HeadBits) → h ≡ head_bits file → h.others < 64
few_others file h e = rw e (bits_below file 4 6)

pub refused_early : (file : List ℕ) → (head_refusal file ≡ 0 → ⊥) → ring_refusal file ≡ head_refusal file
unfolding head_refusal ring_refusal
refused_early file n = first_append 0 (head_tests file) (addresses_tests [] (addresses_of file (count file))) ∙ first_some 0 _ (head_tests file) n

pub refused_late : (file : List ℕ) → head_refusal file ≡ 0 → ring_refusal file ≡ addresses_refusal (addresses_of file (count file))
unfolding head_refusal ring_refusal addresses_refusal
refused_late file e =
    first_append 0 (head_tests file) (addresses_tests [] (addresses_of file (count file)))
    ∙ first_none 0 _ (head_tests file) (head_apart file) e

-- ---- reading

pub read_refused : (file : List ℕ) (k : ℕ) → ring_refusal file ≡ k → (k ≡ 0 → ⊥) → read_ring file ≡ no_ring k
unfolding read_ring
read_refused file k e n = rw (e, ne_eqb k 0 n)

pub read_good : (file : List ℕ) → ring_refusal file ≡ 0 → read_ring file ≡ record { number = 0; ring = ring_of file }
unfolding read_ring
read_good file e = rw (e)

-- what the code reads, step by step, has the file's refusal
pub read_steps : (file l : List ℕ) (n number : ℕ) (addresses : List ℕ) → head_refusal file ≡ 0 → n ≡ count file
    → addresses ≡ laid l 0 (addresses_of file n) → number ≡ addresses_refusal (take n addresses) → number ≡ ring_refusal file
read_steps file l n number addresses h en ea er =
    er ∙ ap addresses_refusal (members_laid file l addresses n ea) ∙ ap (λ (k : ℕ). addresses_refusal (addresses_of file k)) en ∙ sym (refused_late file h)

-- whatever is read, there are at most 64 members
pub few_members : (file : List ℕ) → (read_ring file).ring.n ≤ 64
unfolding read_ring ring_of
few_members file = go (eqb (ring_refusal file) 0)
  where
    go : (b : Bool) → (cond b (record { number = 0; ring = ring_of file }) (no_ring (ring_refusal file))).ring.n ≤ 64
    go true = omega (arith, bits_below file 4 6)
    go false = zero-le

pub read_number : (file : List ℕ) → (read_ring file).number ≡ ring_refusal file
unfolding read_ring
read_number file = go (eqb (ring_refusal file) 0) refl
  where
    go : (b : Bool) → eqb (ring_refusal file) 0 ≡ b → (cond b (record { number = 0; ring = ring_of file }) (no_ring (ring_refusal file))).number ≡ ring_refusal file
    go true e = sym (eqb-true (ring_refusal file) 0 e)
    go false e = refl

-- a number of 0 says that no check refuses
pub read_zero : (file : List ℕ) → (read_ring file).number ≡ 0 → ring_refusal file ≡ 0
read_zero file e = sym (read_number file) ∙ e

-- and so the head's do not
pub head_passed : (file : List ℕ) → ring_refusal file ≡ 0 → head_refusal file ≡ 0
unfolding ring_refusal head_refusal
head_passed file e =
    let later : List (Bool × ℕ) = addresses_tests [] (addresses_of file (count file)) in
    first_passed 0 (head_tests file) (none_gives (first_of 0 later) 0 (head_tests file) (head_apart file) (sym (first_append 0 (head_tests file) later) ∙ e))
