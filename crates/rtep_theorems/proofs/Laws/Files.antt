-- The octets of a good ring's file of form 1, and its checks. Assumes nothing.
use mathlib.Core.Path.{◌≡◌, refl, sym, ap, ◌∙◌}
use mathlib.Core.Bool.{Bool, true, false}
use mathlib.Core.List.{List, [], ◌∷◌, ◌++◌}
use Prim.Native.Nat.{ℕ, zero, suc, ◌+◌, ◌-◌, ◌*◌, ◌/◌, ◌%◌, ◌^◌, ◌<◌, ◌≤◌, zero-le, suc-le-suc}
use native.Mathlib.Numerals.{add-one}
use native.Mathlib.Omega.{arith}
use borrow.Author.Tests.{le-ltb, ltb-true, ltb-false, ne_eqb}
use lib.Dec.{ltb}
use lib.ListN.{length, take, drop, get_or, replicate, length-replicate, get_or-replicate, replicate-append-replicate, get_or-eq_default}
use lib.Seq.{length-take-le, get_or-take}
use Rattle.codec.specs.Order.{first_of}
use Rattle.codec.specs.Octets.{octets}
use Rattle.codec.specs.Ring.{form, limit, version, count, addresses_of, all_channels, channels_at, channels_of, bad_address, position, address_tests, addresses_tests, head_refusal, address_refusal, addresses_refusal, ring_refusal, filled, members_octets, ring_file, read_ring}
use Rattle.codec.specs.Ring as ring
use Rattle.codec.proofs.Laws.Order.{first_passed}
use Rattle.codec.proofs.Laws.Ring.{addresses_more, addresses_none, members_filled, refused_late, read_good}
use Rattle.codec.proofs.Laws.Channels.{all_in}
use Rattle.codec.proofs.Laws.Written as written
use Rattle.rtep_theorems.specs.Rings.{GoodRing, ring_with, file_with}

-- in form 1 all of them
pub all_channels_lem : (file : List ℕ) (n : ℕ) → (form file ≡ 2 → ⊥) → channels_of file n ≡ replicate n all_channels
unfolding channels_of
all_channels_lem file zero other = refl
all_channels_lem file (suc n) other =
    ap (λ (l : List ℕ). l ++ (channels_at file n ∷ [])) (all_channels_lem file n other)
    ∙ ap (λ (k : ℕ). replicate n all_channels ++ (k ∷ [])) (all_in file n other)
    ∙ replicate-append-replicate n 1 all_channels
    ∙ ap (λ (k : ℕ). replicate k all_channels) (add-one n)

-- ---- an address that is nobody's

strangers : (ms : List ℕ) (a : ℕ) → ((j : ℕ) → j < length ms → get_or ms j 0 ≡ a → ⊥) → position ms a ≡ length ms
unfolding position
strangers [] a n = refl
strangers (m ∷ ms) a n = rw (ne_eqb m a (n 0 (suc-le-suc zero-le))) (ap suc (strangers ms a (λ j h. n (suc j) (suc-le-suc h))))

module _ (r : ℕ) (ms : List ℕ) (g : GoodRing r ms) where
  abbrev cs : List ℕ
  cs = replicate (length ms) all_channels

  same : length ms ≡ length cs
  same = sym (length-replicate (length ms) all_channels)

  retries : r < 16
  retries = omega (arith, g.most_retries)

  one : 1 ≤ 2
  one = omega arith

  first : 1 < 4
  first = omega arith

  abbrev s : List ℕ
  s = written.s 1 r 1 ms cs one same g.some_members g.most_members retries first

  file_is : file_with r ms ≡ s
  unfolding ring_file
  file_is =
      let n : ℕ = 1 * 2 ^ 12 + (length ms - 1) * 2 ^ 6 + r * 2 ^ 2 + 0 in
      ap (λ (l : List ℕ). octets 2 n ++ members_octets 1 l (take (length ms) (filled cs))) (members_filled ms (length ms) refl)
      ∙ ap (λ (l : List ℕ). octets 2 n ++ members_octets 1 ms l) (members_filled cs (length ms) (sym same))

  head : written.Head 1 r 1 ms cs one same g.some_members g.most_members retries first
  head = written.head 1 r 1 ms cs one same g.some_members g.most_members retries first

  count_is : count s ≡ length ms
  count_is = written.count_is 1 r 1 ms cs one same g.some_members g.most_members retries first

  fits : (i : ℕ) → get_or ms i 0 < 2 ^ 48
  fits i = go (ltb i (length ms)) refl
    where
      go : (b : Bool) → ltb i (length ms) ≡ b → get_or ms i 0 < 2 ^ 48
      go true e = (g.good i (ltb-true i (length ms) e)).fits
      go false e = rw (get_or-eq_default ms 0 (ltb-false i (length ms) e)) (omega arith)

  addresses : addresses_of s (count s) ≡ ms
  addresses = written.addresses 1 r 1 ms cs one same g.some_members g.most_members retries first fits

  all_open_lem : (i : ℕ) → i < length ms → get_or cs i 0 ≡ all_channels
  all_open_lem i h = get_or-replicate (length ms) i all_channels 0 h

  small : (i : ℕ) → get_or cs i 0 < 256
  small i = go (ltb i (length ms)) refl
    where
      go : (b : Bool) → ltb i (length ms) ≡ b → get_or cs i 0 < 256
      go true e = rw (all_open_lem i (ltb-true i (length ms) e)) (omega arith)
      go false e =
          let out : length cs ≤ i = rw (← same) (ltb-false i (length ms) e) in
          rw (get_or-eq_default cs 0 out) (omega arith)

  channels : channels_of s (count s) ≡ cs
  channels = written.channels 1 r 1 ms cs one same g.some_members g.most_members retries first small (λ _ i h. all_open_lem i h)

  version_is : version s ≡ 1
  version_is = written.version_is 1 r 1 ms cs one same g.some_members g.most_members retries first (λ _. refl)

  head_passes : head_refusal s ≡ 0
  head_passes = written.head_passes 1 r 1 ms cs one same g.some_members g.most_members retries first refl refl g.some_retry

  address_passes : (i : ℕ) → i < length ms → address_refusal (take i ms) (get_or ms i 0) ≡ 0
  unfolding address_refusal bad_address
  address_passes i h =
      let a : ℕ = get_or ms i 0 in
      let good = g.good i h in
      let front : length (take i ms) ≡ i = length-take-le i ms (omega arith) in
      let nobody : position (take i ms) a ≡ length (take i ms) =
      strangers (take i ms) a (λ j b e. g.apart j i (omega (arith, front)) h (sym (get_or-take i ms j 0 (omega (arith, front))) ∙ e)) in
      let single : a / 2 ^ 40 % 2 ≡ 1 → ⊥ = λ z. omega (arith, good.one_station, z) in
      let bad : bad_address a ≡ false = rw (ne_eqb a 0 good.not_zero, ne_eqb (a / 2 ^ 40 % 2) 1 single) in
      first_passed 0 (address_tests (take i ms) a) (bad, (le-ltb (position (take i ms) a) (length (take i ms)) (omega (arith, nobody)), tt))

  addresses_pass : (k i : ℕ) → length ms ≡ i + k → first_of 0 (addresses_tests (take i ms) (drop i ms)) ≡ 0
  addresses_pass zero i e = addresses_none ms i (omega arith)
  addresses_pass (suc k) i e = addresses_more ms i (omega arith) (address_passes i (omega arith)) ∙ addresses_pass k (i + 1) (omega arith)

  -- ---- reading

  passes : ring_refusal s ≡ 0
  unfolding addresses_refusal
  passes = refused_late s head_passes ∙ ap addresses_refusal addresses ∙ addresses_pass (length ms) 0 (omega arith)

  pub file_reads : read_ring (file_with r ms) ≡ record { number = 0; ring = ring_with r ms }
  unfolding ring.ring_of
  file_reads =
      let f : ring.form s ≡ 1 = head.form_is in
      let n : count s ≡ length ms = count_is in
      let l : limit s ≡ r = head.limit_is in
      let v : version s ≡ 1 = version_is in
      let m : addresses_of s (count s) ≡ ms = addresses in
      let c : channels_of s (count s) ≡ cs = channels in
      ap read_ring file_is ∙ read_good s passes ∙ (λ i. record { number = 0; ring = record { form = f i; n = n i; limit = l i; version = v i; addresses = filled (m i); channels = filled (c i) } })
