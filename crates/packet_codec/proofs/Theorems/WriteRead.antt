-- Writing after reading: octets that read as a packet are that packet's octets, and the packet is fit to write. Assumes nothing.
use mathlib.Core.Path.{◌≡◌, refl, sym, ap, ◌∙◌, subst}
use mathlib.Core.Bool.{Bool, true, false, cond, not}
use mathlib.Core.List.{List, [], ◌∷◌, ◌++◌}
use Prim.Native.Nat.{ℕ, ◌+◌, ◌-◌, ◌/◌, ◌%◌, ◌^◌, ◌<◌, ◌≤◌, max}
use native.Mathlib.Omega.{arith}
use borrow.Author.Tests.{le-leb, eqb-true, eqb-false, eq-eqb, not-false}
use lib.Dec.{leb, eqb}
use lib.ListN.{length, take, drop, get_or, length-drop, take-append-drop}
use lib.Seq.{drop-cons, drop-drop, take_all}
use Rattle.codec.specs.Order.{first_of}
use Rattle.codec.specs.Octets.{Octets, octets, number_at, zeros}
use Rattle.packet_codec.specs.declared.packet.Packet.{Packet}
use Rattle.packet_codec.specs.declared.packet.Packet.TheVariants.{Token, Transmit, Information}
use Rattle.packet_codec.specs.declared.fields.Looked.TheVariants.{Sound}
use Rattle.packet_codec.specs.declared.reading.Read.TheVariants.{Good}
use Rattle.packet_codec.specs.Packet.{identifier, short_of, head_of, packet_of, short_octets, information_octets, packet_octets, information_in, information_part, information_length, pad_from, length_from, size, field_tests, pad_tests, length_tests, rest_tests, read_tests, write_tests, Fit, read_packet}
use Rattle.packet_codec.specs.RoundTrip.{WritesAs}
use Rattle.packet_codec.specs.Typed.{Typed}
use Rattle.codec.proofs.Laws.Octets.{field_then, octets_take, octets_drop, number_below, length_part}
use Rattle.codec.proofs.Laws.Order.{NoneHolds, none_holds, none_append, none_split, first_passed}
use Rattle.packet_codec.proofs.Laws.Packet.{good_late, looked_good, read_apart, pad_is}

-- ---- what reading says

-- what octets are that read as the packet p
record Passed (ring s : List ℕ) (p : Packet) : Type 0 where
  is : packet_of s ≡ p
  long : 46 ≤ length s
  low : 1 ≤ identifier s
  high : identifier s ≤ 3
  fields : NoneHolds (field_tests ring p)
  pad : NoneHolds (pad_tests s (pad_from p) (46 - pad_from p))
  sized : length s ≡ size p

passed : (ring s : List ℕ) (p : Packet) → read_packet ring s ≡ Good p → Passed ring s p
passed ring s p e =
    let g = good_late ring s p e in
    let looked = looked_good (packet_of s) p _ g.looked in
    let sound : first_of Sound (read_tests ring s p) ≡ Sound = ap (λ r. first_of Sound (read_tests ring s r)) (sym looked.1) ∙ looked.0 in
    let all = none_split (field_tests ring p) (rest_tests s p) (none_holds Sound (read_tests ring s p) (read_apart ring s p) sound) in
    let rest = none_split (pad_tests s (pad_from p) (46 - pad_from p)) (length_tests (length s) (size p) (length_from p)) all.1 in
    record {
      is = looked.1;
      long = g.long;
      low = g.low;
      high = g.high;
      fields = all.0;
      pad = rest.0;
      sized = eqb-true _ _ (not-false _ rest.1.0);
    }

-- ---- the octets again, field by field

-- identifier, priority and number
start_again : (s : List ℕ) → Octets s → 46 ≤ length s → s ≡ octets 1 (identifier s) ++ (octets 1 (get_or s 1 0) ++ (octets 2 (number_at s 2 2) ++ drop 4 s))
start_again s o h =
    let e0 : get_or s 0 0 / 1 % 256 ≡ get_or s 0 0 = omega (arith, o 0) in
    let e1 : get_or s 1 0 / 1 % 256 ≡ get_or s 1 0 = omega (arith, o 1) in
    drop-cons s 0 0 (omega arith)
    ∙ ap (λ (l : List ℕ). get_or s 0 0 ∷ l) (drop-cons s 1 0 (omega arith) ∙ ap (λ (l : List ℕ). get_or s 1 0 ∷ l) (field_then s 2 2 4 o refl (omega arith)))
    ∙ rw (e0, e1)

addresses_again : (s : List ℕ) → Octets s → 46 ≤ length s → drop 4 s ≡ octets 6 (number_at s 4 6) ++ (octets 6 (number_at s 10 6) ++ (octets 6 (number_at s 16 6) ++ drop 22 s))
addresses_again s o h =
    field_then s 4 6 10 o refl (omega arith)
    ∙ ap (λ (l : List ℕ). octets 6 (number_at s 4 6) ++ l) (field_then s 10 6 16 o refl (omega arith)
    ∙ ap (λ (l : List ℕ). octets 6 (number_at s 10 6) ++ l) (field_then s 16 6 22 o refl (omega arith)))

-- a pad up to the end
pad_again : (s : List ℕ) (from : ℕ) → length s ≡ max 46 from → NoneHolds (pad_tests s from (46 - from)) → drop from s ≡ zeros (46 - from)
pad_again s from long n =
    let all : take (46 - from) (drop from s) ≡ drop from s = take_all (46 - from) (drop from s) (rw (length-drop from s) (omega arith)) in
    sym all ∙ pad_is s from (46 - from) (omega arith) n

short_again : (s : List ℕ) → Octets s → length s ≡ 46 → NoneHolds (pad_tests s 22 24) → s ≡ short_octets (identifier s) (short_of s)
short_again s o long pad =
    let h : 46 ≤ length s = omega arith in
    start_again s o h
    ∙ ap (λ (l : List ℕ). octets 1 (identifier s) ++ (octets 1 (get_or s 1 0) ++ (octets 2 (number_at s 2 2) ++ l))) (addresses_again s o h
    ∙ ap (λ (l : List ℕ). octets 6 (number_at s 4 6) ++ (octets 6 (number_at s 10 6) ++ (octets 6 (number_at s 16 6) ++ l))) (pad_again s 22 (omega arith) pad))

module _ (s : List ℕ) (o : Octets s) (long : length s ≡ max 46 (8 + number_at s 6 2)) (pad : NoneHolds (pad_tests s (8 + number_at s 6 2) (46 - (8 + number_at s 6 2)))) where
  abbrev n : ℕ
  n = number_at s 6 2

  abbrev info : List ℕ
  info = take n (drop 8 s)

  length_info : length info ≡ n
  length_info = length_part s 8 n (omega arith)

  information_again : identifier s ≡ 3 → s ≡ information_octets (head_of s) info
  information_again id =
      let h : 46 ≤ length s = omega arith in
      let after : drop 4 s ≡ octets 2 (number_at s 4 2) ++ (octets 2 n ++ drop 8 s) =
      field_then s 4 2 6 o refl (omega arith) ∙ ap (λ (l : List ℕ). octets 2 (number_at s 4 2) ++ l) (field_then s 6 2 8 o refl (omega arith)) in
      let zs : drop (8 + n) s ≡ zeros (46 - (8 + length info)) = pad_again s (8 + n) long pad ∙ ap (λ (k : ℕ). zeros (46 - (8 + k))) (sym length_info) in
      let rest : drop 8 s ≡ info ++ zeros (46 - (8 + length info)) =
      sym (take-append-drop n (drop 8 s)) ∙ ap (λ (l : List ℕ). info ++ l) (drop-drop n 8 s ∙ zs) in
      start_again s o h
      ∙ ap (λ (k : ℕ). octets 1 k ++ (octets 1 (get_or s 1 0) ++ (octets 2 (number_at s 2 2) ++ drop 4 s))) id
      ∙ ap (λ (l : List ℕ). octets 1 3 ++ (octets 1 (get_or s 1 0) ++ (octets 2 (number_at s 2 2) ++ l))) (after
      ∙ ap (λ (l : List ℕ). octets 2 (number_at s 4 2) ++ (octets 2 n ++ l)) rest)

  part_is : information_part (Information (head_of s)) s ≡ info
  unfolding information_in
  part_is = let room : 8 + n ≤ length s = omega arith in rw (le-leb _ _ room)

-- ---- the theorem

-- the fields' tests and the length's, of information of the right length
fit_of : (ring : List ℕ) (p : Packet) (part : List ℕ) → NoneHolds (field_tests ring p) → length part ≡ information_length p → Fit ring p part
fit_of ring p part fields e =
    first_passed Sound (write_tests ring p (length part))
    (none_append (field_tests ring p) (length_tests (length part) (information_length p) (length_from p)) fields (ap not (eq-eqb (length part) (information_length p) e), tt))

nothing_of : (b : Bool) (s : List ℕ) → length (cond b (take 0 (drop 8 s)) []) ≡ 0
nothing_of true s = refl
nothing_of false s = refl

typed_start : (s : List ℕ) → Octets s → 46 ≤ length s → Typed (get_or s 1 0) (number_at s 2 2)
typed_start s o h =
    let l : length (take 2 (drop 2 s)) ≡ 2 = length_part s 2 2 (omega arith) in
    record { priority_fits = o 1; number_fits = subst (λ (k : ℕ). number_at s 2 2 < 256 ^ k) l (number_below (take 2 (drop 2 s)) (octets_take 2 (drop 2 s) (octets_drop 2 s o))) }

token_again : (ring s : List ℕ) → Octets s → identifier s ≡ 1 → Passed ring s (Token (short_of s)) → WritesAs ring s (Token (short_of s))
unfolding packet_octets information_in
token_again ring s o id h =
    record {
      again = short_again s o h.sized h.pad ∙ ap (λ (k : ℕ). short_octets k (short_of s)) id;
      fit = fit_of ring (Token (short_of s)) (information_part (Token (short_of s)) s) h.fields (nothing_of (leb 8 (length s)) s);
      typed = typed_start s o h.long;
    }

transmit_again : (ring s : List ℕ) → Octets s → identifier s ≡ 2 → Passed ring s (Transmit (short_of s)) → WritesAs ring s (Transmit (short_of s))
unfolding packet_octets information_in
transmit_again ring s o id h =
    record {
      again = short_again s o h.sized h.pad ∙ ap (λ (k : ℕ). short_octets k (short_of s)) id;
      fit = fit_of ring (Transmit (short_of s)) (information_part (Transmit (short_of s)) s) h.fields (nothing_of (leb 8 (length s)) s);
      typed = typed_start s o h.long;
    }

head_again : (ring s : List ℕ) → Octets s → identifier s ≡ 3 → Passed ring s (Information (head_of s)) → WritesAs ring s (Information (head_of s))
unfolding packet_octets
head_again ring s o id h =
    let part = part_is s o h.sized h.pad in
    record {
      again = information_again s o h.sized h.pad id ∙ ap (information_octets (head_of s)) (sym part);
      fit = fit_of ring (Information (head_of s)) (information_part (Information (head_of s)) s) h.fields (ap length part ∙ length_info s o h.sized h.pad);
      typed = typed_start s o h.long;
    }

-- by the identifier
by_kind : (ring s : List ℕ) → Octets s → Passed ring s (packet_of s) → WritesAs ring s (packet_of s)
unfolding packet_of
by_kind ring s o h = go (eqb (identifier s) 1) (eqb (identifier s) 2) refl refl h
  where
    go : (a b : Bool) → eqb (identifier s) 1 ≡ a → eqb (identifier s) 2 ≡ b
        → Passed ring s (cond a (Token (short_of s)) (cond b (Transmit (short_of s)) (Information (head_of s))))
        → WritesAs ring s (cond a (Token (short_of s)) (cond b (Transmit (short_of s)) (Information (head_of s))))
    go true b ea eb p = token_again ring s o (eqb-true _ _ ea) p
    go false true ea eb p = transmit_again ring s o (eqb-true _ _ eb) p
    go false false ea eb p = head_again ring s o (omega (arith, h.low, h.high, eqb-false (identifier s) 1 ea, eqb-false (identifier s) 2 eb)) p

pub write_after_read : (ring s : List ℕ) (p : Packet) → Octets s → read_packet ring s ≡ Good p → WritesAs ring s p
write_after_read ring s p o e =
    let h = passed ring s p e in
    subst (WritesAs ring s) h.is (by_kind ring s o (subst (Passed ring s) (sym h.is) h))
