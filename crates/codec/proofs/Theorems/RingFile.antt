-- A ring file that reads is the only one with its form, version, N, R, addresses and open channels: it is the file written from them.
-- Assumes nothing.
use mathlib.Core.Path.{◌≡◌, refl, sym, ap, ◌∙◌}
use mathlib.Core.Bool.{Bool, true, false, cond, not}
use mathlib.Core.List.{List, [], ◌++◌, append-nil}
use Prim.Native.Nat.{ℕ, zero, suc, ◌+◌, ◌*◌, ◌^◌, ◌≤◌}
use native.Mathlib.Nat.{mul-zero, mul-suc}
use native.Mathlib.Omega.{arith}
use borrow.Author.Tests.{eqb-true, not-false}
use lib.Dec.{eqb}
use lib.ListN.{length, take, drop, length-drop, take-append-drop}
use lib.Seq.{take-add, take_all, drop-drop}
use Rattle.codec.specs.Octets.{Octets, octets, number_at}
use Rattle.codec.specs.Bits.{bits}
use Rattle.codec.specs.Ring.{form, others, limit, last_bits, version, count, head_length, stride, member_at, addresses_of, channels_at, channels_of, ring_of, read_ring, filled, head_number, members_octets, ring_file}
use Rattle.codec.proofs.Laws.Octets.{field_again}
use Rattle.codec.proofs.Laws.Bits.{bits_join, bits_octets}
use Rattle.codec.proofs.Laws.Members.{members_snoc}
use Rattle.codec.proofs.Laws.Ring.{HeadGood, member_within, head_good, head_passed, read_zero, read_good, length_addresses, length_channels, members_filled}

-- ---- the head

-- the four fields make the first two octets' number
head_number_lem : (file : List ℕ) → Octets file → 2 ≤ length file → number_at file 0 2 ≡ ((form file * 2 ^ 6 + others file) * 2 ^ 4 + limit file) * 2 ^ 2 + last_bits file
head_number_lem file o h =
    sym (bits_octets file 0 2 o h)
    ∙ bits_join file 0 14 2
    ∙ ap (λ (k : ℕ). k * 2 ^ 2 + last_bits file) (bits_join file 0 10 4 ∙ ap (λ (k : ℕ). k * 2 ^ 4 + limit file) (bits_join file 0 4 6))

-- the last two bits are the version, or zero
last_is : (b : Bool) (last : ℕ) (bad : Bool) → cond b bad (not (eqb last 0)) ≡ false → cond b (cond b last 1) 0 ≡ last
last_is true last bad e = refl
last_is false last bad e = sym (eqb-true last 0 (not-false _ e))

head_again : (file : List ℕ) → Octets file → HeadGood file → take 2 file ≡ octets 2 (head_number (ring_of file))
unfolding ring_of
head_again file o g =
    let last : cond (eqb (form file) 2) (version file) 0 ≡ last_bits file = last_is (eqb (form file) 2) (last_bits file) _ g.last_good in
    let e : number_at file 0 2 ≡ head_number (ring_of file) = head_number_lem file o g.long ∙ omega (arith, last) in
    sym (field_again file 0 2 o g.long) ∙ ap (octets 2) e

-- ---- the members

module _ (file : List ℕ) (o : Octets file) where
  -- a member's octets, from where it begins
  member_here : (b : Bool) (at : ℕ) → at + cond b 7 6 ≤ length file
      → take (cond b 7 6) (drop at file) ≡ octets 6 (bits file (at * 8) 48) ++ cond b (octets 1 (cond b (bits file (at * 8 + 48) 8) 255)) []
  member_here false at h =
      sym (append-nil _ ∙ ap (octets 6) (bits_octets file at 6 o h) ∙ field_again file at 6 o h)
  member_here true at h =
      let behind : at * 8 + 48 ≡ (at + 6) * 8 = omega arith in
      let address : octets 6 (bits file (at * 8) 48) ≡ take 6 (drop at file) = ap (octets 6) (bits_octets file at 6 o (omega arith)) ∙ field_again file at 6 o (omega arith) in
      let channels : octets 1 (bits file (at * 8 + 48) 8) ≡ take 1 (drop 6 (drop at file)) =
      ap (λ (k : ℕ). octets 1 (bits file k 8)) behind ∙ ap (octets 1) (bits_octets file (at + 6) 1 o (omega arith)) ∙ field_again file (at + 6) 1 o (omega arith)
      ∙ ap (take 1) (sym (drop-drop 6 at file)) in
      take-add 6 1 (drop at file) ∙ sym (ap (λ (l : List ℕ). l ++ octets 1 (bits file (at * 8 + 48) 8)) address ∙ ap (λ (l : List ℕ). take 6 (drop at file) ++ l) channels)

  members_again : (n : ℕ) → member_at file n ≤ length file → take (stride (form file) * n) (drop head_length file) ≡ members_octets (form file) (addresses_of file n) (channels_of file n)
  unfolding addresses_of channels_of members_octets
  members_again zero h = ap (λ (k : ℕ). take k (drop head_length file)) (mul-zero (stride (form file)))
  members_again (suc n) h =
      let f : ℕ = form file in
      let w : member_at file n + stride f ≤ length file = omega (arith, member_within f n (suc n) (omega arith), h) in
      let before : take (stride f * n) (drop head_length file) ≡ members_octets f (addresses_of file n) (channels_of file n) = members_again n (omega (arith, w)) in
      ap (λ (k : ℕ). take k (drop head_length file)) (mul-suc (stride f) n)
      ∙ take-add (stride f * n) (stride f) (drop head_length file)
      ∙ ap (λ (l : List ℕ). l ++ take (stride f) (drop (stride f * n) (drop head_length file))) before
      ∙ ap (λ (l : List ℕ). members_octets f (addresses_of file n) (channels_of file n) ++ l) (ap (take (stride f)) (drop-drop (stride f * n) head_length file) ∙ member_here (eqb f 2) (member_at file n) w)
      ∙ sym (members_snoc f (addresses_of file n) (channels_of file n) (bits file (member_at file n * 8) 48) (channels_at file n) (length_addresses file n ∙ sym (length_channels file n)))

-- ---- the theorem

good_again : (file : List ℕ) → Octets file → HeadGood file → file ≡ ring_file (ring_of file)
unfolding ring_file ring_of
good_again file o g =
    let f : ℕ = form file in
    let n : ℕ = count file in
    let all : take (stride f * n) (drop head_length file) ≡ drop head_length file = take_all (stride f * n) (drop head_length file) (rw (length-drop head_length file) (omega (arith, g.sized))) in
    let ms : take n (filled (addresses_of file n)) ≡ addresses_of file n = members_filled (addresses_of file n) n (length_addresses file n) in
    let cs : take n (filled (channels_of file n)) ≡ channels_of file n = members_filled (channels_of file n) n (length_channels file n) in
    sym (take-append-drop 2 file)
    ∙ ap (λ (l : List ℕ). l ++ drop 2 file) (head_again file o g)
    ∙ ap (λ (l : List ℕ). octets 2 (head_number (ring_of file)) ++ l)
    (sym all ∙ members_again file o n (omega (arith, g.sized)) ∙ ap (λ (l : List ℕ). members_octets f l (channels_of file n)) (sym ms) ∙ ap (members_octets f (take n (filled (addresses_of file n)))) (sym cs))

pub file_again : (file : List ℕ) → Octets file → (read_ring file).number ≡ 0 → file ≡ ring_file (read_ring file).ring
file_again file o e =
    let z = read_zero file e in
    good_again file o (head_good file (head_passed file z)) ∙ ap (λ r. ring_file r.ring) (sym (read_good file z))

pub only_file : (file other : List ℕ) → Octets file → Octets other → (read_ring file).number ≡ 0 → (read_ring other).number ≡ 0 → (read_ring file).ring ≡ (read_ring other).ring → file ≡ other
only_file file other o o' e e' same = file_again file o e ∙ ap ring_file same ∙ sym (file_again other o' e')
