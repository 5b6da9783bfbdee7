-- Laws of the members' octets in a ring file. Assumes nothing.
use mathlib.Core.Path.{◌≡◌, refl, sym, ap, ◌∙◌}
use mathlib.Core.Bool.{Bool, true, false, cond}
use mathlib.Core.List.{List, [], ◌∷◌, ◌++◌, append_assoc, append-nil}
use Prim.Native.Nat.{ℕ, ◌+◌, ◌*◌, ◌^◌, ◌≤◌, ◌<◌}
use native.Mathlib.Nat.{mul-zero, mul-suc, add_comm, le_trans}
use native.Mathlib.Numerals.{add-one}
use native.Mathlib.Omega.{arith}
use borrow.Author.Tests.{eq-eqb, ne_eqb}
use lib.Dec.{eqb}
use lib.ListN.{length, take, get_or, length-append}
use lib.Seq.{take-suc}
use Rattle.codec.specs.Octets.{octets, laid}
use Rattle.codec.specs.declared.head.HeadBits.{HeadBits}
use Rattle.codec.specs.Ring.{form, version_of, last_for, stride, file_octets, member_at, channels_at, channels_of, member_octets, members_octets}
use Rattle.codec.proofs.Laws.Octets.{length_octets, length_laid, then_laid}
use Rattle.codec.proofs.Laws.Ring.{stride_most, octets_most, octets_room, octets_grow, length_channels}

pub length_member : (f a c : ℕ) → length (member_octets f a c) ≡ stride f
length_member f a c = length-append (octets 6 a) (cond (eqb f 2) (octets 1 c) []) ∙ go (eqb f 2)
  where
    go : (b : Bool) → 6 + length (cond b (octets 1 c) []) ≡ cond b 7 6
    go true = refl
    go false = refl

-- the last two bits are two
pub last_small : (f : ℕ) (h : HeadBits) → h.last < 4 → last_for f (version_of h) < 4
last_small f h small = go (eqb f 2) (eqb h.form 2)
  where
    go : (b d : Bool) → cond b (cond d h.last 1) 0 < 4
    go true true = small
    go true false = omega arith
    go false d = omega arith

-- a member laid over a buffer: its address, and in form 2 its open channels
pub address_alone : (f a c at : ℕ) (l l₁ : List ℕ) → (f ≡ 2 → ⊥) → l₁ ≡ laid l at (octets 6 a) → l₁ ≡ laid l at (member_octets f a c)
address_alone f a c at l l₁ n p =
    let e : member_octets f a c ≡ octets 6 a = rw (ne_eqb f 2 n) (append-nil (octets 6 a)) in
    p ∙ ap (laid l at) (sym e)

pub with_channels : (f a c at : ℕ) (l l₁ l₂ : List ℕ) → f ≡ 2 → at + 7 ≤ length l → l₁ ≡ laid l at (octets 6 a) → l₂ ≡ laid l₁ (at + 6) (octets 1 c) → l₂ ≡ laid l at (member_octets f a c)
with_channels f a c at l l₁ l₂ e room p q =
    let both : member_octets f a c ≡ octets 6 a ++ octets 1 c = rw (eq-eqb f 2 e) in
    then_laid l l₁ l₂ (octets 6 a) (octets 1 c) at (at + 6) (ap (λ (k : ℕ). at + k) (length_octets 6 a)) (omega arith) p q
    ∙ ap (laid l at) (sym both)

-- one more at the end
pub members_snoc : (f : ℕ) (ms cs : List ℕ) (a c : ℕ) → length ms ≡ length cs
    → members_octets f (ms ++ (a ∷ [])) (cs ++ (c ∷ [])) ≡ members_octets f ms cs ++ member_octets f a c
unfolding members_octets
members_snoc f [] [] a c e = append-nil (member_octets f a c)
members_snoc f [] (d ∷ cs) a c e = absurd (omega (arith, e))
members_snoc f (b ∷ ms) [] a c e = absurd (omega (arith, e))
members_snoc f (b ∷ ms) (d ∷ cs) a c e =
    ap (λ (l : List ℕ). member_octets f b d ++ l) (members_snoc f ms cs a c (omega (arith, e)))
    ∙ sym (append_assoc (member_octets f b d) (members_octets f ms cs) (member_octets f a c))

pub length_members : (f : ℕ) (ms cs : List ℕ) → length ms ≡ length cs → length (members_octets f ms cs) ≡ stride f * length ms
unfolding members_octets
length_members f [] cs e = sym (mul-zero (stride f))
length_members f (a ∷ ms) [] e = absurd (omega (arith, e))
length_members f (a ∷ ms) (c ∷ cs) e =
    length-append (member_octets f a c) (members_octets f ms cs)
    ∙ ap (λ (k : ℕ). k + length (members_octets f ms cs)) (length_member f a c)
    ∙ ap (λ (k : ℕ). stride f + k) (length_members f ms cs (omega (arith, e)))
    ∙ add_comm (stride f) (stride f * length ms)
    ∙ sym (mul-suc (stride f) (length ms))

-- one member more behind those that are laid over
pub member_more : (file l l₁ l₂ ms : List ℕ) (f i : ℕ) → i < length ms → length ms ≤ 64 → 450 ≤ length l
    → l₁ ≡ laid l 2 (members_octets f (take i ms) (channels_of file i))
    → l₂ ≡ laid l₁ (file_octets f i) (member_octets f (get_or ms i 0) (channels_at file i))
    → l₂ ≡ laid l 2 (members_octets f (take (i + 1) ms) (channels_of file (i + 1)))
unfolding channels_of
member_more file l l₁ l₂ ms f i more few room p q =
    let long : length (take i ms) ≡ i = lib.Seq.length-take-le i ms (omega arith) in
    let same : length (take i ms) ≡ length (channels_of file i) = long ∙ sym (length_channels file i) in
    let end : 2 + length (members_octets f (take i ms) (channels_of file i)) ≡ file_octets f i =
    ap (λ (k : ℕ). 2 + k) (length_members f (take i ms) (channels_of file i) same ∙ ap (λ (k : ℕ). stride f * k) long) in
    then_laid l l₁ l₂ (members_octets f (take i ms) (channels_of file i)) (member_octets f (get_or ms i 0) (channels_at file i)) 2 (file_octets f i) end
    (omega (arith, octets_most f i (omega arith)))
    p q
    ∙ ap (laid l 2)
    (sym (members_snoc f (take i ms) (channels_of file i) (get_or ms i 0) (channels_at file i) same)
    ∙ ap (λ (x : List ℕ). members_octets f x (channels_of file i ++ (channels_at file i ∷ []))) (sym (take-suc ms i 0 more))
    ∙ ap (λ (k : ℕ). members_octets f (take k ms) (channels_of file k)) (sym (add-one i)))

-- there is room for it, and the buffer keeps its length
pub room_for : (f i n at : ℕ) (l l₁ : List ℕ) → i < n → n ≤ 64 → at ≡ file_octets f i → length l₁ ≡ length l → 450 ≤ length l → at + 7 ≤ length l₁
room_for f i n at l l₁ more few here same room = let r : file_octets f i + 7 ≤ 450 = octets_room f i (omega arith) in omega (arith, r)

pub member_kept : (f a c at : ℕ) (l l₁ : List ℕ) → at + 7 ≤ length l → l₁ ≡ laid l at (member_octets f a c) → length l₁ ≡ length l
member_kept f a c at l l₁ room p =
    let s : length (member_octets f a c) ≡ stride f = length_member f a c in
    let m : stride f ≤ 7 = stride_most f in
    ap length p ∙ length_laid l (member_octets f a c) at (omega (arith, s, m))

-- and what is read of it stands in the file
pub member_read : (file ms : List ℕ) (i : ℕ) → i < length ms → length ms ≤ 64 → member_at file (length ms) ≤ length file → (i < 64) × (member_at file (i + 1) ≤ length file)
member_read file ms i more few within =
    let g : member_at file (i + 1) ≤ member_at file (length ms) = octets_grow (form file) (i + 1) (length ms) (omega arith) in
    (omega arith, le_trans g within)

-- what is counted fits
pub eight_fit : (i n : ℕ) → i < n → n ≤ 64 → i * 8 < 2 ^ 64
eight_fit i n more few = omega arith

pub step_fits : (f i n at step : ℕ) → i < n → n ≤ 64 → at ≡ file_octets f i → step ≡ stride f → at + step < 2 ^ 64
step_fits f i n at step more few here e =
    let r : file_octets f i + 7 ≤ 450 = octets_room f i (omega arith) in
    let m : stride f ≤ 7 = stride_most f in
    omega (arith, r, m, here, e)
