-- Laws of a ring file in another form. Assumes nothing.
use mathlib.Core.Path.{◌≡◌, refl, sym, ap, ◌∙◌}
use mathlib.Core.Bool.{true, false, not}
use mathlib.Core.List.{List, ◌++◌}
use Prim.Native.Nat.{ℕ, ◌+◌, ◌*◌, ◌^◌, ◌≤◌, ◌<◌}
use native.Mathlib.Omega.{arith}
use borrow.Author.Tests.{eq-eqb, ne_eqb}
use lib.Dec.{eqb}
use lib.ListN.{length, take, length-append}
use Rattle.codec.specs.Octets.{octets, laid}
use Rattle.codec.specs.declared.head.HeadBits.{HeadBits}
use Rattle.codec.specs.Ring.{others, limit, head_bits, version_of, version, count, stride, file_octets, member_at, addresses_of, channels_of, ring_refusal, filled, ring_of, last_for, head_number, members_octets, ring_file, in_form, all_open, plain, cannot, form_refusal, formed, InForm}
use Rattle.codec.proofs.Laws.Octets.{length_octets, then_laid}
use Rattle.codec.proofs.Laws.Ring.{length_addresses, length_channels, members_filled}
use Rattle.codec.proofs.Laws.Members.{last_small, length_members}
use Rattle.codec.proofs.Laws.Bits.{bits_below}

-- ---- whether form 1 can express it

pub other_version : (file : List ℕ) → (version file ≡ 1 → ⊥) → plain (ring_of file) ≡ false
unfolding plain ring_of
other_version file n = rw (ne_eqb (version file) 1 n)

pub first_version : (file : List ℕ) → version file ≡ 1 → plain (ring_of file) ≡ all_open (channels_of file (count file))
unfolding plain ring_of
first_version file e =
    rw (eq-eqb (version file) 1 e) (ap all_open (members_filled (channels_of file (count file)) (count file) (length_channels file (count file))))

pub can_2 : (asked : ℕ) (file : List ℕ) → (asked ≡ 1 → ⊥) → cannot asked file ≡ false
can_2 asked file n = rw (ne_eqb asked 1 n)

pub can_1 : (asked : ℕ) (file : List ℕ) → asked ≡ 1 → cannot asked file ≡ not (plain (ring_of file))
can_1 asked file e = rw (eq-eqb asked 1 e)

-- ---- the numbers, and what is left

module _ (asked : ℕ) (file out : List ℕ) where
  pub reader_refuses : (k : ℕ) → k ≡ ring_refusal file → (k ≡ 0 → ⊥) → InForm asked file out k 0 out
  unfolding form_refusal
  reader_refuses k e n =
      let z : eqb (ring_refusal file) 0 ≡ false = ne_eqb (ring_refusal file) 0 (λ q. n (e ∙ q)) in
      record { answer = rw z e; length_is = rw (ne_eqb k 0 n); out_is = rw (ne_eqb k 0 n) }

  pub form_refuses : ring_refusal file ≡ 0 → cannot asked file ≡ true → InForm asked file out 26 0 out
  unfolding form_refusal
  form_refuses z c = record { answer = rw (z, c); length_is = refl; out_is = refl }

  pub form_given : (size : ℕ) (out' : List ℕ) → ring_refusal file ≡ 0 → cannot asked file ≡ false → size ≡ length (formed asked file)
      → out' ≡ laid out 0 (formed asked file) → InForm asked file out 0 size out'
  unfolding form_refusal
  form_given size out' z c s o = record { answer = rw (z, c); length_is = s; out_is = o }

-- ---- the octets

module _ (asked : ℕ) (file : List ℕ) where
  abbrev n : ℕ
  n = count file

  abbrev number : ℕ
  number = asked * 2 ^ 12 + others file * 2 ^ 6 + limit file * 2 ^ 2 + last_for asked (version file)

  abbrev octets_of : List ℕ
  octets_of = members_octets asked (addresses_of file n) (channels_of file n)

  pub formed_is : formed asked file ≡ octets 2 number ++ octets_of
  unfolding formed ring_file ring_of
  formed_is =
      let h : head_number (in_form asked (ring_of file)) ≡ number = omega arith in
      ap (λ (k : ℕ). octets 2 k ++ members_octets asked (take n (filled (addresses_of file n))) (take n (filled (channels_of file n)))) h
      ∙ ap (λ (l : List ℕ). octets 2 number ++ members_octets asked l (take n (filled (channels_of file n)))) (members_filled (addresses_of file n) n (length_addresses file n))
      ∙ ap (λ (l : List ℕ). octets 2 number ++ members_octets asked (addresses_of file n) l) (members_filled (channels_of file n) n (length_channels file n))

  pub length_formed : length (formed asked file) ≡ file_octets asked n
  length_formed =
      ap length formed_is
      ∙ length-append (octets 2 number) octets_of
      ∙ ap (λ (k : ℕ). k + length octets_of) (length_octets 2 number)
      ∙ ap (λ (k : ℕ). 2 + k) (length_members asked (addresses_of file n) (channels_of file n) (length_addresses file n ∙ sym (length_channels file n)) ∙ ap (λ (k : ℕ). stride asked * k) (length_addresses file n))

  -- the head's number, as it is put together of a head
  pub number_is : (h : HeadBits) (v l k : ℕ) → h ≡ head_bits file → v ≡ version_of h → l ≡ last_for asked v
      → k ≡ asked * 2 ^ 12 + h.others * 2 ^ 6 + h.limit * 2 ^ 2 + l → k ≡ number
  number_is h v l k eh ev el ek =
      ek
      ∙ ap (λ (g : HeadBits). asked * 2 ^ 12 + g.others * 2 ^ 6 + g.limit * 2 ^ 2 + l) eh
      ∙ ap (λ (x : ℕ). asked * 2 ^ 12 + others file * 2 ^ 6 + limit file * 2 ^ 2 + x) (el ∙ ap (last_for asked) (ev ∙ ap version_of eh))

  -- and what that requires
  pub head_fits : (h : HeadBits) (v l : ℕ) → asked < 16 → h ≡ head_bits file → v ≡ version_of h → l ≡ last_for asked v
      → (asked < 16) × ((h.others < 64) × ((h.limit < 16) × (l < 4)))
  head_fits h v l fits eh ev el =
      let last : h.last < 4 = rw eh (bits_below file 14 2) in
      (fits, (rw eh (bits_below file 4 6), (rw eh (bits_below file 10 4), rw (el, ev) (last_small asked h last))))

  -- the members that are laid are the file's
  pub members_fit : (ms : List ℕ) → ms ≡ addresses_of file n → member_at file n ≤ length file → (length ms ≤ 64) × (member_at file (length ms) ≤ length file)
  members_fit ms e within =
      let long : length ms ≡ n = ap length e ∙ length_addresses file n in
      (omega (arith, long, bits_below file 4 6), rw long within)

  pub members_are : (ms l l₁ : List ℕ) → ms ≡ addresses_of file n → l₁ ≡ laid l 2 (members_octets asked ms (channels_of file (length ms))) → l₁ ≡ laid l 2 octets_of
  members_are ms l l₁ e q =
      let long : length ms ≡ n = ap length e ∙ length_addresses file n in
      q
      ∙ ap (λ (k : ℕ). laid l 2 (members_octets asked ms (channels_of file k))) long
      ∙ ap (λ (x : List ℕ). laid l 2 (members_octets asked x (channels_of file n))) e

  -- the head, and then the members
  pub form_laid : (l l₁ l₂ : List ℕ) → 450 ≤ length l → l₁ ≡ laid l 0 (octets 2 number) → l₂ ≡ laid l₁ 2 octets_of → l₂ ≡ laid l 0 (formed asked file)
  form_laid l l₁ l₂ room p q =
      then_laid l l₁ l₂ (octets 2 number) octets_of 0 2 (length_octets 2 number) (omega arith) p q ∙ ap (laid l 0) (sym formed_is)
