-- 12 comes with the offset of the first test that holds, and never without one; a packet of which one holds gets it. Assumes nothing.
use mathlib.Core.Path.{◌≡◌, refl, sym, ap, ◌∙◌, subst}
use mathlib.Core.Bool.{Bool, true, false, cond}
use mathlib.Core.List.{List, [], ◌∷◌}
use mathlib.Core.Logic.{◌⊎◌, inl, inr}
use Prim.Native.Nat.{ℕ, ◌%◌, ◌<◌, ◌≤◌}
use native.Mathlib.Omega.{arith}
use lib.ListN.{length}
use Rattle.codec.specs.Order.{first_of}
use Rattle.packet_codec.specs.declared.fields.Looked.{Looked}
use Rattle.packet_codec.specs.declared.fields.Looked.TheVariants.{Sound, Bad}
use Rattle.packet_codec.specs.declared.packet.Packet.{Packet}
use Rattle.packet_codec.specs.declared.reading.Refusal.TheVariants.{Size, Identifier, BadAt}
use Rattle.packet_codec.specs.declared.reading.Read.{Read}
use Rattle.packet_codec.specs.declared.reading.Read.TheVariants.{Refused, Good}
use Rattle.packet_codec.specs.Packet.{identifier, packet_of, read_tests, Below, looked_read, read_packet, read_answer, read_number}
use Rattle.packet_codec.specs.BadAt.{FirstBad, BadPlace, Both, Located}
use Rattle.packet_codec.proofs.Laws.Packet.{bad_not_sound, read_late, read_fields}
use Rattle.packet_codec.proofs.Laws.Looked.{looked_below}

-- ---- the first test that holds

first_bad : (ts : List (Bool × Looked)) (offset : ℕ) → first_of Sound ts ≡ Bad offset → FirstBad ts offset
first_bad [] offset e = bad_not_sound offset (sym e)
first_bad (t ∷ ts) offset e = go t.0 refl e (first_bad ts offset)
  where
    go : (b : Bool) → t.0 ≡ b → cond b t.1 (first_of Sound ts) ≡ Bad offset → (first_of Sound ts ≡ Bad offset → FirstBad ts offset)
        → ((t.0 ≡ true) × (t.1 ≡ Bad offset)) ⊎ ((t.0 ≡ false) × FirstBad ts offset)
    go true h e' rest = inl (h, e')
    go false h e' rest = inr (h, rest e')

bad_first : (ts : List (Bool × Looked)) (offset : ℕ) → FirstBad ts offset → first_of Sound ts ≡ Bad offset
bad_first [] offset f = absurd f
bad_first (t ∷ ts) offset (inl f) = rw f.0 f.1
bad_first (t ∷ ts) offset (inr f) = rw f.0 (bad_first ts offset f.1)

-- ---- an answer of 12

look_bad : (p : Packet) (l : Looked) (offset : ℕ) → looked_read p l ≡ Refused (BadAt offset) → l ≡ Bad offset
look_bad p Sound offset e = absurd (not_bad e)
  where
    not_bad : Good p ≡ Refused (BadAt offset) → ⊥
    not_bad q = let z : ◌≡◌ {A = ℕ} 0 1 = cc in omega arith
look_bad p (Bad k) offset e = let q : k ≡ offset = cc (e) in ap Bad q

not_size : (offset : ℕ) → Refused Size ≡ Refused (BadAt offset) → ⊥
not_size offset e = let z : ◌≡◌ {A = ℕ} 0 1 = cc in omega arith

not_identifier : (offset : ℕ) → Refused Identifier ≡ Refused (BadAt offset) → ⊥
not_identifier offset e = let z : ◌≡◌ {A = ℕ} 0 1 = cc in omega arith

pub bad_at : (ring s : List ℕ) → (read_answer (read_packet ring s)).0 ≡ 12 → BadPlace ring s (read_answer (read_packet ring s)).1
bad_at ring s twelve = go (read_packet ring s) refl twelve
  where
    go : (r : Read) → read_packet ring s ≡ r → (read_answer r).0 ≡ 12 → BadPlace ring s (read_answer r).1
    go (Refused Size) e q = absurd (omega arith)
    go (Refused Identifier) e q = absurd (omega arith)
    go (Refused (BadAt offset)) e q =
        let w = read_late ring s (Refused (BadAt offset)) (not_size offset) (not_identifier offset) e in
        let bad : first_of Sound (read_tests ring s (packet_of s)) ≡ Bad offset = look_bad (packet_of s) _ offset w.looked in
        let early : offset < 46 = subst (Below 46) bad (looked_below ring s (packet_of s)) in
        let long : 46 ≤ length s = w.long in
        record { first = first_bad (read_tests ring s (packet_of s)) offset bad; within = omega arith; longest = w.short }
    go (Good p) e q = absurd (omega arith)

-- ---- and a packet of which a test holds

pub bad_answered : (ring s : List ℕ) (offset : ℕ) → 46 ≤ length s → length s ≤ 1500 → 1 ≤ identifier s → identifier s ≤ 3
    → FirstBad (read_tests ring s (packet_of s)) offset → read_answer (read_packet ring s) ≡ (12, offset)
bad_answered ring s offset long short low high f =
    ap read_answer (read_fields ring s (Bad offset) long short low high (sym (bad_first (read_tests ring s (packet_of s)) offset f)))

-- ---- both in one number

pub both : (r : Read) → Both r
both (Refused Size) = record { number = refl; offset = refl }
both (Refused Identifier) = record { number = refl; offset = refl }
both (Refused (BadAt k)) = record { number = omega arith; offset = omega arith }
both (Good p) = record { number = refl; offset = refl }

other_none : (r : Read) → ((read_answer r).0 ≡ 12 → ⊥) → (read_answer r).1 ≡ 0
other_none (Refused Size) n = refl
other_none (Refused Identifier) n = refl
other_none (Refused (BadAt k)) n = absurd (n refl)
other_none (Good p) n = refl

pub read_located : (ring s : List ℕ) → Located ring s (read_number (read_packet ring s))
read_located ring s =
    let r : Read = read_packet ring s in
    let b = both r in
    record {
      placed = λ e. subst (BadPlace ring s) (sym b.offset) (bad_at ring s (sym b.number ∙ e));
      none = λ n. b.offset ∙ other_none r (λ e. n (b.number ∙ e));
    }

-- any other number of the page has none
pub number_located : (ring s : List ℕ) (k : ℕ) → k < 65536 → (k ≡ 12 → ⊥) → Located ring s k
number_located ring s k few other =
    let same : k % 65536 ≡ k = omega arith in
    record { placed = λ e. absurd (other (sym same ∙ e)); none = λ n. omega arith }
