-- Laws of a packet's checks. Assumes nothing.
use mathlib.Core.Path.{◌≡◌, refl, sym, ap, ◌∙◌}
use mathlib.Core.Bool.{Bool, true, false, cond, not, false≢true}
use mathlib.Core.List.{List, [], ◌∷◌, ◌++◌}
use Prim.Native.Nat.{ℕ, zero, suc, ◌+◌, ◌-◌, ◌*◌, ◌/◌, ◌<◌, ◌≤◌, zero-le}
use native.Mathlib.Nat.{add-zero, add-suc, suc-add}
use native.Mathlib.Omega.{arith}
use borrow.Author.Tests.{eq-eqb, ne_eqb, lt-ltb, le-ltb, ltb-false, eqb-true, not-false}
use lib.Dec.{ltb, eqb}
use lib.ListN.{length, take, drop, get_or, get_or-replicate}
use lib.Seq.{ext_get_or, get_or-take, get_or-drop}
use Rattle.codec.specs.Order.{first_of}
use Rattle.codec.specs.Octets.{first_nonzero, zeros}
use Rattle.packet_codec.specs.declared.fields.Looked.{Looked}
use Rattle.packet_codec.specs.declared.fields.Looked.TheVariants.{Sound, Bad}
use Rattle.packet_codec.specs.declared.packet.Packet.{Packet}
use Rattle.packet_codec.specs.declared.packet.Packet.TheVariants.{Token, Transmit, Information}
use Rattle.packet_codec.specs.Packet.{field_tests, pad_tests, length_tests, rest_tests, read_tests, write_tests, information_length, pad_from, length_from, size, is_bad, identifier, short_of, head_of, packet_of, looked_read, read_packet, read_number, look_number, refusal_in}
use Rattle.packet_codec.specs.declared.reading.Refusal.{Refusal}
use Rattle.packet_codec.specs.declared.reading.Refusal.TheVariants.{Size, Identifier, BadAt}
use Rattle.packet_codec.specs.declared.reading.Read.{Read}
use Rattle.packet_codec.specs.declared.reading.Read.TheVariants.{Refused, Good}
use Rattle.codec.proofs.Laws.Octets.{length_part, length_zeros}
use Rattle.codec.proofs.Laws.Order.{Apart, NoneHolds, first_append, none_gives, none_holds, first_none, first_some, first_passed, apart_append}

-- ---- one list of tests after another

pub bad_not_sound : (k : ℕ) → Bad k ≡ Sound → ⊥
bad_not_sound k e = let z : ◌≡◌ {A = ℕ} 0 1 = cc in omega arith

pub looked_bad : (ts us : List (Bool × Looked)) (k : ℕ) → first_of Sound ts ≡ Bad k → first_of Sound (ts ++ us) ≡ Bad k
looked_bad ts us k e = first_append Sound ts us ∙ first_some Sound (first_of Sound us) ts (λ s. bad_not_sound k (sym e ∙ s)) ∙ e

pub looked_sound : (ts us : List (Bool × Looked)) → Apart Sound ts → first_of Sound ts ≡ Sound → first_of Sound (ts ++ us) ≡ first_of Sound us
looked_sound ts us a e = first_append Sound ts us ∙ first_none Sound (first_of Sound us) ts a e

pub fields_apart : (ring : List ℕ) (p : Packet) → Apart Sound (field_tests ring p)
fields_apart ring (Token p) = (bad_not_sound 4, (bad_not_sound 10, (bad_not_sound 16, tt)))
fields_apart ring (Transmit p) = (bad_not_sound 1, (bad_not_sound 4, (bad_not_sound 10, (bad_not_sound 16, tt))))
fields_apart ring (Information h) = (bad_not_sound 1, (bad_not_sound 4, (bad_not_sound 6, tt)))

pub pads_apart : (s : List ℕ) (from k : ℕ) → Apart Sound (pad_tests s from k)
unfolding pad_tests
pads_apart s from zero = tt
pads_apart s from (suc k) = (bad_not_sound from, pads_apart s (suc from) k)

-- ---- the pad

-- the first bad pad octet is the first that is not zero
pub pad_looked : (s : List ℕ) (from k : ℕ) → first_of Sound (pad_tests s from k) ≡ cond (ltb (first_nonzero s from k) (from + k)) (Bad (first_nonzero s from k)) Sound
unfolding pad_tests
pad_looked s from zero = rw (add-zero from, le-ltb from from (omega arith))
pad_looked s from (suc k) = go (eqb (get_or s from 0) 0) (pad_looked s (suc from) k)
  where
    go : (b : Bool) → first_of Sound (pad_tests s (suc from) k) ≡ cond (ltb (first_nonzero s (suc from) k) (suc from + k)) (Bad (first_nonzero s (suc from) k)) Sound
        → cond (not b) (Bad from) (first_of Sound (pad_tests s (suc from) k))
        ≡ cond (ltb (cond b (first_nonzero s (suc from) k) from) (from + suc k)) (Bad (cond b (first_nonzero s (suc from) k) from)) Sound
    go true e = e ∙ rw (suc-add from k, add-suc from k)
    go false e = rw (lt-ltb from (from + suc k) (omega arith))

-- ---- what is fit to write

pub fit_length : (ring : List ℕ) (p : Packet) (n : ℕ) → first_of Sound (write_tests ring p n) ≡ Sound → (n ≡ information_length p) × (information_length p ≤ 1492)
fit_length ring (Token p) n e =
    let h = none_holds Sound (write_tests ring (Token p) n) (bad_not_sound 4, (bad_not_sound 10, (bad_not_sound 16, (bad_not_sound 0, tt)))) e in
    (eqb-true _ _ (not-false _ h.1.1.1.0), zero-le)
fit_length ring (Transmit p) n e =
    let h = none_holds Sound (write_tests ring (Transmit p) n) (bad_not_sound 1, (bad_not_sound 4, (bad_not_sound 10, (bad_not_sound 16, (bad_not_sound 0, tt))))) e in
    (eqb-true _ _ (not-false _ h.1.1.1.1.0), zero-le)
fit_length ring (Information p) n e =
    let h = none_holds Sound (write_tests ring (Information p) n) (bad_not_sound 1, (bad_not_sound 4, (bad_not_sound 6, (bad_not_sound 6, tt)))) e in
    (eqb-true _ _ (not-false _ h.1.1.1.0), ltb-false _ _ h.1.1.0)

pub sound_of : (l : Looked) → is_bad l ≡ false → l ≡ Sound
sound_of Sound e = refl
sound_of (Bad k) e = absurd (false≢true (sym e))

pub write_apart : (ring : List ℕ) (p : Packet) (n : ℕ) → Apart Sound (write_tests ring p n)
write_apart ring p n = apart_append Sound (field_tests ring p) (length_tests n (information_length p) (length_from p)) (fields_apart ring p) (bad_not_sound (length_from p), tt)

pub rest_apart : (s : List ℕ) (p : Packet) → Apart Sound (rest_tests s p)
rest_apart s p =
    apart_append Sound (pad_tests s (pad_from p) (46 - pad_from p)) (length_tests (length s) (size p) (length_from p)) (pads_apart s (pad_from p) (46 - pad_from p)) (bad_not_sound (length_from p), tt)

pub read_apart : (ring s : List ℕ) (p : Packet) → Apart Sound (read_tests ring s p)
read_apart ring s p = apart_append Sound (field_tests ring p) (rest_tests s p) (fields_apart ring p) (rest_apart s p)

-- ---- a pad is good exactly where it is zeros

pub pads_none : (s : List ℕ) (from k : ℕ) → ((i : ℕ) → get_or s (from + i) 0 ≡ 0) → NoneHolds (pad_tests s from k)
unfolding pad_tests
pads_none s from zero z = tt
pads_none s from (suc k) z =
    let here : get_or s from 0 ≡ 0 = ap (λ (j : ℕ). get_or s j 0) (sym (add-zero from)) ∙ z 0 in
    let later : (i : ℕ) → get_or s (suc from + i) 0 ≡ 0 = λ i. ap (λ (j : ℕ). get_or s j 0) (suc-add from i ∙ sym (add-suc from i)) ∙ z (suc i) in
    (rw here, pads_none s (suc from) k later)

pub pads_zero : (s : List ℕ) (from k : ℕ) → NoneHolds (pad_tests s from k) → (i : ℕ) → i < k → get_or s (from + i) 0 ≡ 0
unfolding pad_tests
pads_zero s from zero n i h = absurd (omega arith)
pads_zero s from (suc k) n zero h = ap (λ (j : ℕ). get_or s j 0) (add-zero from) ∙ eqb-true _ _ (not-false _ n.0)
pads_zero s from (suc k) n (suc i) h = ap (λ (j : ℕ). get_or s j 0) (add-suc from i ∙ sym (suc-add from i)) ∙ pads_zero s (suc from) k n.1 i (omega arith)

-- so the part is zeros
pub pad_is : (s : List ℕ) (from k : ℕ) → from + k ≤ length s → NoneHolds (pad_tests s from k) → take k (drop from s) ≡ zeros k
pad_is s from k h n =
    ext_get_or 0 (take k (drop from s)) (zeros k) (length_part s from k h ∙ sym (length_zeros k))
    (λ i hi.
    let b : i < k = rw (length_part s from k h) at hi in
    get_or-take k (drop from s) i 0 b ∙ get_or-drop from s i 0 ∙ pads_zero s from k n i b ∙ sym (get_or-replicate k i 0 0 b))

-- ---- what reading gives

-- an answer that size and identifier do not give comes from the look at the fields
pub record Late (ring s : List ℕ) (r : Read) : Type 0 where
  pub long : 46 ≤ length s
  pub short : length s ≤ 1500
  pub low : 1 ≤ identifier s
  pub high : identifier s ≤ 3
  pub looked : looked_read (packet_of s) (first_of Sound (read_tests ring s (packet_of s))) ≡ r

pub read_late : (ring s : List ℕ) (r : Read) → (Refused Size ≡ r → ⊥) → (Refused Identifier ≡ r → ⊥) → read_packet ring s ≡ r → Late ring s r
unfolding read_packet
read_late ring s r z i e =
    let last : Read = looked_read (packet_of s) (first_of Sound (read_tests ring s (packet_of s))) in
    let ts : List (Bool × Read) =
    (ltb (length s) 46, Refused Size) ∷ (ltb 1500 (length s), Refused Size) ∷ (ltb (identifier s) 1, Refused Identifier) ∷ (ltb 3 (identifier s), Refused Identifier) ∷ [] in
    let n = none_gives last r ts (z, (z, (i, (i, tt)))) e in
    record {
      long = ltb-false _ _ n.0;
      short = ltb-false _ _ n.1.0;
      low = ltb-false _ _ n.1.1.0;
      high = ltb-false _ _ n.1.1.1.0;
      looked = sym (first_passed last ts n) ∙ e;
    }

-- past the tests of size and identifier it is the look at the fields that decides
pub read_fields : (ring s : List ℕ) (l : Looked) → 46 ≤ length s → length s ≤ 1500 → 1 ≤ identifier s → identifier s ≤ 3
    → l ≡ first_of Sound (read_tests ring s (packet_of s)) → read_packet ring s ≡ looked_read (packet_of s) l
unfolding read_packet
read_fields ring s l a b c d e = simp (le-ltb _ _ a, le-ltb _ _ b, le-ltb _ _ c, le-ltb _ _ d) (ap (looked_read (packet_of s)) (sym e))

-- ---- a packet

not_good : (why : Refusal) (p : Packet) → Refused why ≡ Good p → ⊥
not_good why p e = let z : ◌≡◌ {A = ℕ} 0 1 = cc in omega arith

pub good_late : (ring s : List ℕ) (p : Packet) → read_packet ring s ≡ Good p → Late ring s (Good p)
good_late ring s p e = read_late ring s (Good p) (not_good Size p) (not_good Identifier p) e

-- nothing bad was found, and the packet is that of the fields
pub looked_good : (q p : Packet) (l : Looked) → looked_read q l ≡ Good p → (l ≡ Sound) × (q ≡ p)
looked_good q p Sound e = (refl, cc (e))
looked_good q p (Bad k) e = absurd (not_good (BadAt k) p e)

-- ---- the number of what reading gives

-- a refusal has another number than 0
refusal_some : (why : Refusal) → read_number (Refused why) ≡ 0 → ⊥
refusal_some Size e = omega arith
refusal_some Identifier e = omega arith
refusal_some (BadAt k) e = omega arith

-- and its number stands for no other
refusal_back : (why : Refusal) → refusal_in (read_number (Refused why)) ≡ why
unfolding refusal_in
refusal_back Size = refl
refusal_back Identifier = refl
refusal_back (BadAt k) =
    let at : (12 + 65536 * k) / 65536 ≡ k = omega arith in
    simp (ne_eqb (12 + 65536 * k) 10 (λ e. omega arith), ne_eqb (12 + 65536 * k) 11 (λ e. omega arith)) (ap BadAt at)

look_number_lem : (p : Packet) (l : Looked) → look_number l ≡ read_number (looked_read p l)
look_number_lem p Sound = refl
look_number_lem p (Bad k) = refl

pub fields_number : (ring s : List ℕ) (l : Looked) → 46 ≤ length s → length s ≤ 1500 → 1 ≤ identifier s → identifier s ≤ 3
    → l ≡ first_of Sound (read_tests ring s (packet_of s)) → look_number l ≡ read_number (read_packet ring s)
fields_number ring s l a b c d e = look_number_lem (packet_of s) l ∙ ap read_number (sym (read_fields ring s l a b c d e))

number_good : (r : Read) → read_number r ≡ 0 → (p : Packet) → ((q : Packet) → r ≡ Good q → p ≡ q) → r ≡ Good p
number_good (Refused why) z p f = absurd (refusal_some why z)
number_good (Good q) z p f = ap Good (sym (f q refl))

pub read_good : (ring s : List ℕ) → read_number (read_packet ring s) ≡ 0 → read_packet ring s ≡ Good (packet_of s)
read_good ring s e =
    number_good (read_packet ring s) e (packet_of s) (λ q h. (looked_good (packet_of s) q (first_of Sound (read_tests ring s (packet_of s))) (good_late ring s q h).looked).1)

pub read_long : (ring s : List ℕ) → read_number (read_packet ring s) ≡ 0 → 46 ≤ length s
read_long ring s e = (good_late ring s (packet_of s) (read_good ring s e)).long

pub read_refused : (ring s : List ℕ) (number : ℕ) → number ≡ read_number (read_packet ring s) → (number ≡ 0 → ⊥) → read_packet ring s ≡ Refused (refusal_in number)
read_refused ring s number e n = go (read_packet ring s) e
  where
    go : (r : Read) → number ≡ read_number r → r ≡ Refused (refusal_in number)
    go (Refused why) h = ap Refused (sym (ap refusal_in h ∙ refusal_back why))
    go (Good p) h = absurd (n h)

-- ---- which packet the octets make

pub packet_token : (s : List ℕ) → identifier s ≡ 1 → packet_of s ≡ Token (short_of s)
unfolding packet_of
packet_token s e = simp (eq-eqb _ _ e)

pub packet_transmit : (s : List ℕ) → (identifier s ≡ 1 → ⊥) → identifier s ≡ 2 → packet_of s ≡ Transmit (short_of s)
unfolding packet_of
packet_transmit s n e = simp (ne_eqb _ _ n, eq-eqb _ _ e)

pub packet_information : (s : List ℕ) → (identifier s ≡ 1 → ⊥) → (identifier s ≡ 2 → ⊥) → packet_of s ≡ Information (head_of s)
unfolding packet_of
packet_information s n m = simp (ne_eqb _ _ n, ne_eqb _ _ m)
