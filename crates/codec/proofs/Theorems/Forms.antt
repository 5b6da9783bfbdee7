-- A ring file asked for in another form, and back: the same octets. And 26 for no other file than the page says. Assumes nothing.
use mathlib.Core.Path.{◌≡◌, refl, sym, ap, ◌∙◌}
use mathlib.Core.Bool.{Bool, true, false, cond, not, ◌&&◌, ◌||◌, false≢true, true≢false}
use mathlib.Core.List.{List, [], ◌∷◌, ◌++◌}
use Prim.Native.Nat.{ℕ, zero, suc, ◌+◌, ◌-◌, ◌*◌, ◌/◌, ◌%◌, ◌^◌, ◌<◌, ◌≤◌, zero-le, suc-le-suc}
use native.Mathlib.Nat.{div-one, div-eq_of_lt, div-div-eq-div-mul}
use native.Mathlib.Omega.{arith}
use borrow.Author.Tests.{ne_eqb, eqb-true, eqb-false, not-false, ltb-true, ltb-false}
use lib.Dec.{eqb, ltb}
use lib.ListN.{length, get_or}
use Rattle.codec.specs.Order.{first_of}
use Rattle.codec.specs.Octets.{Octets, octets}
use Rattle.codec.specs.Ring.{Ring, RingRead, form, others, limit, last_bits, version, count, addresses_of, all_channels, channels_at, channels_of, is_open, is_form, last_bad, last_number, head_tests, addresses_tests, head_refusal, addresses_refusal, ring_refusal, filled, ring_of, listens, last_for, members_octets, ring_file, in_form, all_open, plain, cannot, form_refusal, formed, ThereAndBack, NotPlain}
use Rattle.codec.proofs.Laws.Order.{Apart, none_gives, first_passed}
use Rattle.codec.proofs.Laws.Bits.{bits_below}
use Rattle.codec.proofs.Laws.Ring.{HeadGood, head_good, head_passed, refused_late, read_number, read_good, length_addresses, length_channels, addresses_fit}
use Rattle.codec.proofs.Laws.Channels.{channels_fit, all_each, each_all, all_in, channels_get, nobody_there, no_channel, listens_there}
use Rattle.codec.proofs.Laws.Forms.{first_version, can_1, can_2, formed_is}
use Rattle.codec.proofs.Laws.Written as written
use Rattle.codec.proofs.Theorems.RingFile.{file_again}

form_most : (f : ℕ) → is_form f ≡ true → f ≤ 2
form_most f = go (eqb f 1) refl (eqb f 2) refl
  where
    go : (a : Bool) → eqb f 1 ≡ a → (b : Bool) → eqb f 2 ≡ b → (a || b) ≡ true → f ≤ 2
    go true p b q e = omega (arith, eqb-true f 1 p)
    go false p true q e = omega (arith, eqb-true f 2 q)
    go false p false q e = absurd (false≢true e)

one_else : (f : ℕ) → is_form f ≡ true → (f ≡ 2 → ⊥) → f ≡ 1
one_else f = go (eqb f 1) refl (eqb f 2) refl
  where
    go : (a : Bool) → eqb f 1 ≡ a → (b : Bool) → eqb f 2 ≡ b → (a || b) ≡ true → (f ≡ 2 → ⊥) → f ≡ 1
    go true p b q e n = eqb-true f 1 p
    go false p true q e n = absurd (n (eqb-true f 2 q))
    go false p false q e n = absurd (false≢true e)

-- ---- a good file's version, and what form 1 says

module _ (file : List ℕ) (g : HeadGood file) where
  version_good : (eqb (version file) 0 || eqb (version file) 3) ≡ false
  version_good = go (eqb (form file) 2) g.last_good
    where
      go : (b : Bool) → cond b (eqb (last_bits file) 0 || eqb (last_bits file) 3) (not (eqb (last_bits file) 0)) ≡ false
          → (eqb (cond b (last_bits file) 1) 0 || eqb (cond b (last_bits file) 1) 3) ≡ false
      go true e = e
      go false e = refl

  version_fits : version file < 4
  version_fits = go (eqb (form file) 2)
    where
      go : (b : Bool) → cond b (last_bits file) 1 < 4
      go true = bits_below file 14 2
      go false = omega arith

-- a file of form 1 is as form 1 says
first_plain : (file : List ℕ) → (form file ≡ 2 → ⊥) → plain (ring_of file) ≡ true
first_plain file n =
    let one : version file ≡ 1 = rw (ne_eqb (form file) 2 n) in
    first_version file one
    ∙ each_all (channels_of file (count file)) (λ i h. channels_get file (count file) i (rw (← length_channels file (count file)) h) ∙ all_in file i n)

both : (a b : Bool) → (a && b) ≡ true → (a ≡ true) × (b ≡ true)
both true b e = (refl, e)
both false b e = absurd (false≢true e)

-- and what is as form 1 says has version 1, and every channel open
plain_version : (file : List ℕ) → plain (ring_of file) ≡ true → version file ≡ 1
unfolding plain ring_of
plain_version file e = eqb-true (version file) 1 (both _ _ e).0

plain_open : (file : List ℕ) → plain (ring_of file) ≡ true → all_open (channels_of file (count file)) ≡ true
plain_open file e = sym (first_version file (plain_version file e)) ∙ e

-- every channel is among all of them
all_open_bits : (channel : ℕ) → channel ≤ 7 → is_open all_channels channel ≡ true
all_open_bits zero h = refl
all_open_bits (suc zero) h = refl
all_open_bits (suc (suc zero)) h = refl
all_open_bits (suc (suc (suc zero))) h = refl
all_open_bits (suc (suc (suc (suc zero)))) h = refl
all_open_bits (suc (suc (suc (suc (suc zero))))) h = refl
all_open_bits (suc (suc (suc (suc (suc (suc zero)))))) h = refl
all_open_bits (suc (suc (suc (suc (suc (suc (suc zero))))))) h = refl
all_open_bits (suc (suc (suc (suc (suc (suc (suc (suc k)))))))) h = absurd (omega arith)

-- so whoever it is listens
every : (file : List ℕ) → plain (ring_of file) ≡ true → (p channel : ℕ) → listens (ring_of file) p channel ≡ true
every file e p channel = go (ltb p (count file)) refl (ltb 7 channel) refl
  where
    go : (a : Bool) → ltb p (count file) ≡ a → (b : Bool) → ltb 7 channel ≡ b → listens (ring_of file) p channel ≡ true
    go false h b c = nobody_there file p channel (ltb-false p (count file) h)
    go true h true c = no_channel file p channel (ltb-true p (count file) h) (ltb-true 7 channel c)
    go true h false c =
        let here : p < count file = ltb-true p (count file) h in
        let few : channel ≤ 7 = ltb-false 7 channel c in
        let all : channels_at file p ≡ all_channels =
        sym (channels_get file (count file) p here) ∙ all_each (channels_of file (count file)) (plain_open file e) p (rw (length_channels file (count file)) here) in
        listens_there file p channel here few ∙ ap (λ (k : ℕ). is_open k channel) all ∙ all_open_bits channel few

-- a good file is the one written of its ring
written_again : (file : List ℕ) → Octets file → ring_refusal file ≡ 0 → file ≡ ring_file (ring_of file)
written_again file o z =
    file_again file o (read_number file ∙ z) ∙ ap (λ (x : RingRead). ring_file x.ring) (read_good file z)

own_ring : (file : List ℕ) → in_form (form file) (ring_of file) ≡ ring_of file
unfolding ring_of
own_ring file = refl

-- ---- what was formed, read

module _ (file : List ℕ) (good : ring_refusal file ≡ 0) (asked : ℕ) (a_form : is_form asked ≡ true) (can : cannot asked file ≡ false) where
  g : HeadGood file
  g = head_good file (head_passed file good)

  abbrev n : ℕ
  n = count file

  abbrev ms : List ℕ
  ms = addresses_of file n

  abbrev cs : List ℕ
  cs = channels_of file n

  some_others : 1 ≤ others file
  some_others = go (others file) g.another
    where
      go : (k : ℕ) → (k ≡ 0 → ⊥) → 1 ≤ k
      go zero z = absurd (z refl)
      go (suc k) z = suc-le-suc zero-le

  some_retry : 1 ≤ limit file
  some_retry = go (limit file) g.some_limit
    where
      go : (k : ℕ) → (k ≡ 0 → ⊥) → 1 ≤ k
      go zero z = absurd (z refl)
      go (suc k) z = suc-le-suc zero-le

  same_length : length ms ≡ length cs
  same_length = length_addresses file n ∙ sym (length_channels file n)

  two : 2 ≤ length ms
  two = omega (arith, some_others, length_addresses file n)

  few : length ms ≤ 64
  few = omega (arith, bits_below file 4 6, length_addresses file n)

  -- what form 1 says, where it is asked for
  as_first : (asked ≡ 2 → ⊥) → plain (ring_of file) ≡ true
  as_first other = not-false _ (sym (can_1 asked file (one_else asked a_form other)) ∙ can)

  open_all : (asked ≡ 2 → ⊥) → (i : ℕ) → i < length ms → get_or cs i 0 ≡ all_channels
  open_all other i h = all_each cs (plain_open file (as_first other)) i (rw (← same_length) h)

  good_last : last_bad asked (last_for asked (version file)) ≡ false
  good_last = go (eqb asked 2)
    where
      go : (b : Bool) → cond b (eqb (cond b (version file) 0) 0 || eqb (cond b (version file) 0) 3) (not (eqb (cond b (version file) 0) 0)) ≡ false
      go true = version_good file g
      go false = refl

  is : formed asked file ≡ written.s asked (limit file) (version file) ms cs (form_most asked a_form) same_length two few (bits_below file 10 4) (version_fits file g)
  is =
      let k : others file ≡ length ms - 1 = omega (arith, length_addresses file n) in
      formed_is asked file
      ∙ ap (λ (x : ℕ). octets 2 (asked * 2 ^ 12 + x * 2 ^ 6 + limit file * 2 ^ 2 + last_for asked (version file)) ++ members_octets asked ms cs) k

  abbrev t : List ℕ
  t = written.s asked (limit file) (version file) ms cs (form_most asked a_form) same_length two few (bits_below file 10 4) (version_fits file g)

  its_head : written.Head asked (limit file) (version file) ms cs (form_most asked a_form) same_length two few (bits_below file 10 4) (version_fits file g)
  its_head = written.head asked (limit file) (version file) ms cs (form_most asked a_form) same_length two few (bits_below file 10 4) (version_fits file g)

  its_count : count t ≡ length ms
  its_count = written.count_is asked (limit file) (version file) ms cs (form_most asked a_form) same_length two few (bits_below file 10 4) (version_fits file g)

  its_addresses : addresses_of t (count t) ≡ ms
  its_addresses =
      written.addresses asked (limit file) (version file) ms cs (form_most asked a_form) same_length two few (bits_below file 10 4) (version_fits file g)
      (addresses_fit file n)

  its_channels : channels_of t (count t) ≡ cs
  its_channels =
      written.channels asked (limit file) (version file) ms cs (form_most asked a_form) same_length two few (bits_below file 10 4) (version_fits file g)
      (channels_fit file n) open_all

  its_version : version t ≡ version file
  its_version =
      written.version_is asked (limit file) (version file) ms cs (form_most asked a_form) same_length two few (bits_below file 10 4) (version_fits file g)
      (λ other. plain_version file (as_first other))

  passes : ring_refusal t ≡ 0
  passes =
      let h : head_refusal t ≡ 0 =
      written.head_passes asked (limit file) (version file) ms cs (form_most asked a_form) same_length two few (bits_below file 10 4) (version_fits file g)
      a_form good_last some_retry in
      refused_late t h ∙ ap addresses_refusal its_addresses ∙ sym (refused_late file (head_passed file good)) ∙ good

  ring_is : ring_of t ≡ in_form asked (ring_of file)
  unfolding ring_of
  ring_is =
      let f : form t ≡ asked = its_head.form_is in
      let k : count t ≡ n = its_count ∙ length_addresses file n in
      let l : limit t ≡ limit file = its_head.limit_is in
      let v : version t ≡ version file = its_version in
      let m : addresses_of t (count t) ≡ ms = its_addresses in
      let c : channels_of t (count t) ≡ cs = its_channels in
      λ i. record { form = f i; n = k i; limit = l i; version = v i; addresses = filled (m i); channels = filled (c i) }

  formed_passes : ring_refusal (formed asked file) ≡ 0
  formed_passes = ap ring_refusal is ∙ passes

  formed_ring : ring_of (formed asked file) ≡ in_form asked (ring_of file)
  formed_ring = ap ring_of is ∙ ring_is

  -- and asked for in its own form again
  same_plain : plain (ring_of (formed asked file)) ≡ plain (ring_of file)
  unfolding plain
  same_plain = ap plain formed_ring

  goes_back : cannot (form file) (formed asked file) ≡ false
  goes_back = go (eqb (form file) 1) refl
    where
      go : (b : Bool) → eqb (form file) 1 ≡ b → cannot (form file) (formed asked file) ≡ false
      go true e =
          let one : form file ≡ 1 = eqb-true (form file) 1 e in
          can_1 (form file) (formed asked file) one ∙ ap not (same_plain ∙ first_plain file (λ z. omega (arith, one, z)))
      go false e = can_2 (form file) (formed asked file) (eqb-false (form file) 1 e)

  back_again : Octets file → formed (form file) (formed asked file) ≡ file
  unfolding formed
  back_again o = ap (λ (r : Ring). ring_file (in_form (form file) r)) formed_ring ∙ ap ring_file (own_ring file) ∙ sym (written_again file o good)

-- ---- the theorems

-- no refusal: the reader lets it pass, and the form that is asked for can express it
none_refuses : (asked : ℕ) (file : List ℕ) → form_refusal asked file ≡ 0 → (ring_refusal file ≡ 0) × (cannot asked file ≡ false)
unfolding form_refusal
none_refuses asked file e = go (eqb (ring_refusal file) 0) refl (cannot asked file) refl e
  where
    go : (a : Bool) → eqb (ring_refusal file) 0 ≡ a → (b : Bool) → cannot asked file ≡ b → cond (not a) (ring_refusal file) (cond b 26 0) ≡ 0 → (ring_refusal file ≡ 0) × (b ≡ false)
    go true p true q z = absurd (let w : ◌≡◌ {A = ℕ} 26 0 = z in omega (arith, w))
    go true p false q z = (eqb-true (ring_refusal file) 0 p, refl)
    go false p b q z = absurd (eqb-false (ring_refusal file) 0 p z)

pub no_refusal : (asked : ℕ) (file : List ℕ) → ring_refusal file ≡ 0 → cannot asked file ≡ false → form_refusal asked file ≡ 0
unfolding form_refusal
no_refusal asked file z c = rw (z, c)

pub there_and_back : (asked : ℕ) (file : List ℕ) → Octets file → is_form asked ≡ true → form_refusal asked file ≡ 0 → ThereAndBack asked file
there_and_back asked file o a e =
    let p = none_refuses asked file e in
    let z : ring_refusal file ≡ 0 = p.0 in
    let c : cannot asked file ≡ false = p.1 in
    record {
      same_ring = read_good (formed asked file) (formed_passes file z asked a c)
          ∙ ap (λ (r : Ring). let x : RingRead = record { number = 0; ring = r } in x) (formed_ring file z asked a c ∙ ap (λ (x : RingRead). in_form asked x.ring) (sym (read_good file z)));
      back = no_refusal (form file) (formed asked file) (formed_passes file z asked a c) (goes_back file z asked a c);
      same = back_again file z asked a c o;
    }

-- a file that has the form already is handed back as it is
pub as_it_is : (file : List ℕ) → Octets file → ring_refusal file ≡ 0 → (form_refusal (form file) file ≡ 0) × (formed (form file) file ≡ file)
unfolding formed
as_it_is file o z =
    (no_refusal (form file) file z (can_own (eqb (form file) 1) refl), ap ring_file own ∙ sym (written_again file o z))
  where
    can_own : (b : Bool) → eqb (form file) 1 ≡ b → cannot (form file) file ≡ false
    can_own true e =
        let one : form file ≡ 1 = eqb-true (form file) 1 e in
        can_1 (form file) file one ∙ ap not (first_plain file (λ y. omega (arith, one, y)))
    can_own false e = can_2 (form file) file (eqb-false (form file) 1 e)

    own : in_form (form file) (ring_of file) ≡ ring_of file
    own = own_ring file

-- ---- 26 for no other

addresses_apart : (k : ℕ) → (6 ≡ k → ⊥) → (7 ≡ k → ⊥) → (earlier more : List ℕ) → Apart k (addresses_tests earlier more)
addresses_apart k six seven earlier [] = tt
addresses_apart k six seven earlier (a ∷ more) = (six, (seven, addresses_apart k six seven (earlier ++ (a ∷ [])) more))

apart_append : (k : ℕ) (ts us : List (Bool × ℕ)) → Apart k ts → Apart k us → Apart k (ts ++ us)
apart_append k [] us p q = q
apart_append k (x ∷ ts) us p q = (p.0, apart_append k ts us p.1 q)

last_other : (f : ℕ) → last_number f ≡ 26 → ⊥
last_other f = go (eqb f 2)
  where
    go : (b : Bool) → ◌≡◌ {A = ℕ} (cond b 27 3) 26 → ⊥
    go true z = omega (arith, z)
    go false z = omega (arith, z)

-- the reader has no such number
reader_other : (file : List ℕ) → ring_refusal file ≡ 26 → ⊥
unfolding ring_refusal
reader_other file e =
    let ts : List (Bool × ℕ) = head_tests file ++ addresses_tests [] (addresses_of file (count file)) in
    let heads : Apart 26 (head_tests file) = ((λ z. omega (arith, z)), ((λ z. omega (arith, z)), (last_other (form file), ((λ z. omega (arith, z)), ((λ z. omega (arith, z)), ((λ z. omega (arith, z)), tt)))))) in
    let apart : Apart 26 ts = apart_append 26 (head_tests file) (addresses_tests [] (addresses_of file (count file))) heads
    (addresses_apart 26 (λ z. omega (arith, z)) (λ z. omega (arith, z)) [] (addresses_of file (count file))) in
    let z : first_of 0 ts ≡ 0 = first_passed 0 ts (none_gives 0 26 ts apart e) in
    omega (arith, z, e)

one_more : (x : ℕ) (k : ℕ) → x / 2 ≡ k → x % 2 ≡ 1 → x ≡ k * 2 + 1
one_more x k h e = omega arith

halves : (o m k : ℕ) → o / (m * 2) ≡ k → o / m % 2 ≡ 1 → o / m ≡ k * 2 + 1
halves o m k h e = one_more (o / m) k (div-div-eq-div-mul o m 2 ∙ h) e

top : (o : ℕ) → o < 256 → o / 128 % 2 ≡ 1 → o / 64 % 2 ≡ 1 → o / 32 % 2 ≡ 1 → o / 16 % 2 ≡ 1 → o / 8 % 2 ≡ 1 → o / 4 % 2 ≡ 1 → o / 2 % 2 ≡ 1 → o % 2 ≡ 1 → o ≡ all_channels
top o fits b₀ b₁ b₂ b₃ b₄ b₅ b₆ b₇ =
    let h₀ : o / 128 ≡ 1 = halves o 128 0 (div-eq_of_lt fits) b₀ in
    let h₁ : o / 64 ≡ 3 = halves o 64 1 h₀ b₁ in
    let h₂ : o / 32 ≡ 7 = halves o 32 3 h₁ b₂ in
    let h₃ : o / 16 ≡ 15 = halves o 16 7 h₂ b₃ in
    let h₄ : o / 8 ≡ 31 = halves o 8 15 h₃ b₄ in
    let h₅ : o / 4 ≡ 63 = halves o 4 31 h₄ b₅ in
    let h₆ : o / 2 ≡ 127 = halves o 2 63 h₅ b₆ in
    one_more o 127 h₆ b₇

-- an octet with every bit set
bits_all : (o : ℕ) → o < 256 → ((channel : ℕ) → channel ≤ 7 → is_open o channel ≡ true) → o ≡ all_channels
bits_all o fits each =
    let b₀ : o / 128 % 2 ≡ 1 = eqb-true _ _ (each 0 (omega arith)) in
    let b₁ : o / 64 % 2 ≡ 1 = eqb-true _ _ (each 1 (omega arith)) in
    let b₂ : o / 32 % 2 ≡ 1 = eqb-true _ _ (each 2 (omega arith)) in
    let b₃ : o / 16 % 2 ≡ 1 = eqb-true _ _ (each 3 (omega arith)) in
    let b₄ : o / 8 % 2 ≡ 1 = eqb-true _ _ (each 4 (omega arith)) in
    let b₅ : o / 4 % 2 ≡ 1 = eqb-true _ _ (each 5 (omega arith)) in
    let b₆ : o / 2 % 2 ≡ 1 = eqb-true _ _ (each 6 (omega arith)) in
    let b₇ : o / 1 % 2 ≡ 1 = eqb-true _ _ (each 7 (omega arith)) in
    top o fits b₀ b₁ b₂ b₃ b₄ b₅ b₆ (rw (← div-one o) b₇)

-- who all listen on every channel have them all open
all_listen : (file : List ℕ) → ((p channel : ℕ) → listens (ring_of file) p channel ≡ true) → all_open (channels_of file (count file)) ≡ true
all_listen file each =
    each_all (channels_of file (count file))
    (λ i h.
    let here : i < count file = rw (← length_channels file (count file)) h in
    let is : get_or (channels_of file (count file)) i 0 ≡ channels_at file i = channels_get file (count file) i here in
    is ∙ bits_all (channels_at file i) (rw (← is) (channels_fit file (count file) i)) (λ c few. sym (listens_there file i c here few) ∙ each i c))

pub refused_26 : (asked : ℕ) (file : List ℕ) → form_refusal asked file ≡ 26 → (asked ≡ 1) × NotPlain file
unfolding form_refusal
refused_26 asked file e = go (eqb (ring_refusal file) 0) refl (eqb asked 1) refl (plain (ring_of file)) refl e
  where
    go : (a : Bool) → eqb (ring_refusal file) 0 ≡ a → (b : Bool) → eqb asked 1 ≡ b → (c : Bool) → plain (ring_of file) ≡ c
        → cond (not a) (ring_refusal file) (cond (b && not c) 26 0) ≡ 26 → (asked ≡ 1) × NotPlain file
    go true p true q false r z = (
      eqb-true asked 1 q,
      record {
        good = eqb-true (ring_refusal file) 0 p;
        second_form = second (eqb (form file) 2) refl;
        closed = λ one each. true≢false (sym (all_listen file each) ∙ sym (first_version file one) ∙ r);
      },
    )
      where
        second : (d : Bool) → eqb (form file) 2 ≡ d → form file ≡ 2
        second true y = eqb-true (form file) 2 y
        second false y = absurd (true≢false (sym (first_plain file (eqb-false (form file) 2 y)) ∙ r))
    go true p true q true r z = absurd (let w : ◌≡◌ {A = ℕ} 0 26 = z in omega (arith, w))
    go true p false q c r z = absurd (let w : ◌≡◌ {A = ℕ} 0 26 = z in omega (arith, w))
    go false p b q c r z = absurd (reader_other file z)

-- and so it is given exactly then
pub then_26 : (file : List ℕ) → NotPlain file → form_refusal 1 file ≡ 26
unfolding form_refusal
then_26 file n = rw n.good (go (plain (ring_of file)) refl)
  where
    go : (c : Bool) → plain (ring_of file) ≡ c → ◌≡◌ {A = ℕ} (cond (not c) 26 0) 26
    go true e = absurd (n.closed (plain_version file e) (every file e))
    go false e = refl

-- to form 2 the reader's numbers alone
pub to_2 : (file : List ℕ) → form_refusal 2 file ≡ ring_refusal file
unfolding form_refusal
to_2 file = go (eqb (ring_refusal file) 0) refl
  where
    go : (a : Bool) → eqb (ring_refusal file) 0 ≡ a → cond (not a) (ring_refusal file) 0 ≡ ring_refusal file
    go true e = sym (eqb-true (ring_refusal file) 0 e)
    go false e = refl
