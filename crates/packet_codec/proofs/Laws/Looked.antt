-- Laws of looking at a packet in steps: what the first step finds, and then the next. Assumes nothing.
use mathlib.Core.Path.{◌≡◌, refl, sym, ap, ◌∙◌, subst}
use mathlib.Core.List.{List, [], ◌∷◌, ◌++◌}
use Prim.Native.Nat.{ℕ, zero, suc, ◌+◌, ◌-◌, ◌<◌, ◌≤◌}
use native.Mathlib.Omega.{arith}
use mathlib.Core.Bool.{Bool, true, false, cond}
use lib.ListN.{length}
use Rattle.codec.specs.Order.{first_of}
use Rattle.packet_codec.specs.declared.fields.Looked.{Looked}
use Rattle.packet_codec.specs.declared.fields.Looked.TheVariants.{Sound, Bad}
use Rattle.packet_codec.specs.declared.packet.Packet.{Packet}
use Rattle.packet_codec.specs.declared.packet.Packet.TheVariants.{Token, Transmit, Information}
use Rattle.packet_codec.specs.Packet.{field_tests, pad_tests, length_tests, pad_from, length_from, size, rest_tests, read_tests, then_looked, Below}
use Rattle.codec.proofs.Laws.Order.{Apart}
use Rattle.packet_codec.proofs.Laws.Packet.{looked_bad, looked_sound, fields_apart}

pub then_looked_lem : (ts us : List (Bool × Looked)) → Apart Sound ts → first_of Sound (ts ++ us) ≡ then_looked (first_of Sound ts) (first_of Sound us)
then_looked_lem ts us a = go (first_of Sound ts) refl
  where
    go : (l : Looked) → first_of Sound ts ≡ l → first_of Sound (ts ++ us) ≡ then_looked l (first_of Sound us)
    go Sound e = looked_sound ts us a e
    go (Bad k) e = looked_bad ts us k e

-- the fields first, and then the rest
pub read_looked : (ring s : List ℕ) (p : Packet) (first whole : Looked) → first ≡ first_of Sound (field_tests ring p)
    → whole ≡ then_looked first (first_of Sound (rest_tests s p)) → whole ≡ first_of Sound (read_tests ring s p)
read_looked ring s p first whole e f =
    f ∙ ap (λ (l : Looked). then_looked l (first_of Sound (rest_tests s p))) e ∙ sym (then_looked_lem (field_tests ring p) (rest_tests s p) (fields_apart ring p))

-- ---- every place lies within the octets that each packet has

-- each test's place is below n
abbrev AllBelow : ℕ → List (Bool × Looked) → Type 0
AllBelow n [] = Unit {0}
AllBelow n (t ∷ ts) = Below n t.1 × AllBelow n ts

first_below : (n : ℕ) (ts : List (Bool × Looked)) → AllBelow n ts → Below n (first_of Sound ts)
first_below n [] a = tt
first_below n (t ∷ ts) a = go t.0 a.0 (first_below n ts a.1)
  where
    go : (b : Bool) → Below n t.1 → Below n (first_of Sound ts) → Below n (cond b t.1 (first_of Sound ts))
    go true p q = p
    go false p q = q

append_below : (n : ℕ) (ts us : List (Bool × Looked)) → AllBelow n ts → AllBelow n us → AllBelow n (ts ++ us)
append_below n [] us a b = b
append_below n (t ∷ ts) us a b = (a.0, append_below n ts us a.1 b)

fields_below : (ring : List ℕ) (p : Packet) → AllBelow 46 (field_tests ring p)
fields_below ring (Token p) = (omega arith, (omega arith, (omega arith, tt)))
fields_below ring (Transmit p) = (omega arith, (omega arith, (omega arith, (omega arith, tt))))
fields_below ring (Information h) = (omega arith, (omega arith, (omega arith, tt)))

pads_below : (n : ℕ) (s : List ℕ) (from k : ℕ) → (0 < k → from + k ≤ n) → AllBelow n (pad_tests s from k)
unfolding pad_tests
pads_below n s from zero h = tt
pads_below n s from (suc k) h =
    let most : from + suc k ≤ n = h (omega arith) in
    (omega arith, pads_below n s (suc from) k (λ some. omega arith))

length_below : (p : Packet) → length_from p < 46
length_below (Token p) = omega arith
length_below (Transmit p) = omega arith
length_below (Information h) = omega arith

pub looked_below : (ring s : List ℕ) (p : Packet) → Below 46 (first_of Sound (read_tests ring s p))
looked_below ring s p =
    let from : ℕ = pad_from p in
    first_below 46 (read_tests ring s p)
    (append_below 46 (field_tests ring p) (rest_tests s p) (fields_below ring p)
    (append_below 46 (pad_tests s from (46 - from)) (length_tests (length s) (size p) (length_from p)) (pads_below 46 s from (46 - from) (λ some. omega arith)) (length_below p, tt)))

below_more : (l : Looked) → Below 46 l → Below 65536 l
below_more Sound b = tt
below_more (Bad k) b = omega arith

pub looked_fits : (ring s : List ℕ) (p : Packet) (l : Looked) → l ≡ first_of Sound (read_tests ring s p) → Below 65536 l
looked_fits ring s p l e = below_more l (subst (Below 46) (sym e) (looked_below ring s p))
