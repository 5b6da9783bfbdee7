-- Eight numbers and the packet of them: each gives the other. Assumes nothing.
use mathlib.Core.Path.{◌≡◌, refl, sym, ap, ◌∙◌, subst}
use mathlib.Core.Bool.{Bool, true, false, cond}
use mathlib.Core.List.{List, [], ◌∷◌, ◌++◌}
use Prim.Native.Nat.{ℕ, suc, ◌+◌, ◌-◌, ◌<◌, ◌≤◌}
use native.Mathlib.Omega.{arith}
use borrow.Author.Tests.{le-ltb, ltb-false, eqb-true, eqb-false, not-false}
use lib.Dec.{eqb}
use lib.ListN.{length, drop, get_or, length-append, drop_of_length-le}
use lib.Seq.{drop-cons}
use Rattle.codec.specs.Octets.{zeros}
use Rattle.codec.proofs.Laws.Octets.{length_zeros}
use Rattle.codec.proofs.Laws.Order.{none_gives, none_holds, first_passed}
use Rattle.packet_codec.specs.declared.packet.Short.{Short}
use Rattle.packet_codec.specs.declared.packet.Head.{Head}
use Rattle.packet_codec.specs.declared.packet.Packet.{Packet}
use Rattle.packet_codec.specs.declared.packet.Packet.TheVariants.{Token, Transmit, Information}
use Rattle.packet_codec.specs.declared.fields.Looked.TheVariants.{Sound}
use Rattle.packet_codec.specs.Packet.{size, information_length, head_octets, packet_octets, write_tests, Fit}
use Rattle.packet_codec.proofs.Laws.Packet.{write_apart, fit_length}
use Rattle.packet_codec.specs.Typed.{Typed, TypedPacket}
use Rattle.std.specs.Prelude.{Option, None, Some}
use Rattle.rtep.specs.Told.{values_of, short_tests, short_made, head_tests, head_made, start_tests, made_of}

-- ---- a list of eight

from : (v : List ℕ) (i : ℕ) {rest : List ℕ} → i < length v → drop (suc i) v ≡ rest → drop i v ≡ get_or v i 0 ∷ rest
from v i h e = drop-cons v i 0 h ∙ ap (λ (l : List ℕ). get_or v i 0 ∷ l) e

eight : (v : List ℕ) → length v ≡ 8
    → v ≡ get_or v 0 0 ∷ get_or v 1 0 ∷ get_or v 2 0 ∷ get_or v 3 0 ∷ get_or v 4 0 ∷ get_or v 5 0 ∷ get_or v 6 0 ∷ get_or v 7 0 ∷ []
eight v e =
    let end : drop 8 v ≡ [] = drop_of_length-le v {i = 8} (omega arith) in
    from v 0 (omega arith) (from v 1 (omega arith) (from v 2 (omega arith) (from v 3 (omega arith)
    (from v 4 (omega arith) (from v 5 (omega arith) (from v 6 (omega arith) (from v 7 (omega arith) end)))))))

-- ---- a packet that is made of numbers has these numbers

pub record Numbered (v : List ℕ) (p : Packet) : Type 0 where
  pub values : values_of p ≡ v
  pub typed : TypedPacket p

some_packet : (p : Packet) → None ≡ Some p → ⊥
some_packet p e = let z : ◌≡◌ {A = ℕ} 0 1 = cc in omega arith

module _ (identifier priority number master failing named channel long : ℕ) (p : Packet) where
  abbrev v : List ℕ
  v = identifier ∷ priority ∷ number ∷ master ∷ failing ∷ named ∷ channel ∷ long ∷ []

  abbrev short : Short
  short = record { priority = priority; number = number; master = master; failing = failing; named = named }

  abbrev head : Head
  head = record { priority = priority; number = number; channel = channel; length = long }

  short_numbered : Typed priority number → 1 ≤ identifier → identifier ≤ 3 → (identifier ≡ 3 → ⊥)
      → short_made identifier priority number master failing named channel long ≡ Some p → Numbered v p
  unfolding short_made values_of
  short_numbered t low high other e =
      let one : (Option Packet) = cond (eqb identifier 1) (Some (Token short)) (Some (Transmit short)) in
      let n = none_gives one (Some p) (short_tests channel long) (some_packet p, (some_packet p, tt)) e in
      let c : channel ≡ 0 = eqb-true _ _ (not-false _ n.0) in
      let l : long ≡ 0 = eqb-true _ _ (not-false _ n.1.0) in
      go c l (eqb identifier 1) refl (sym (first_passed one (short_tests channel long) n) ∙ e)
    where
      go : channel ≡ 0 → long ≡ 0 → (b : Bool) → eqb identifier 1 ≡ b → cond b (Some (Token short)) (Some (Transmit short)) ≡ Some p → Numbered v p
      go c l true i e' =
          let is : Token short ≡ p = cc (e') in
          let one : identifier ≡ 1 = eqb-true _ _ i in
          subst (Numbered v) is (record { values = cc; typed = t })
      go c l false i e' =
          let is : Transmit short ≡ p = cc (e') in
          let two : identifier ≡ 2 = omega (arith, eqb-false identifier 1 i) in
          subst (Numbered v) is (record { values = cc; typed = t })

  head_numbered : Typed priority number → identifier ≡ 3 → head_made priority number master failing named channel long ≡ Some p → Numbered v p
  unfolding head_made values_of
  head_numbered t id e =
      let n = none_gives (Some (Information head)) (Some p) (head_tests master failing named channel long)
      (some_packet p, (some_packet p, (some_packet p, (some_packet p, (some_packet p, tt))))) e in
      let a : master ≡ 0 = eqb-true _ _ (not-false _ n.0) in
      let b : failing ≡ 0 = eqb-true _ _ (not-false _ n.1.0) in
      let c : named ≡ 0 = eqb-true _ _ (not-false _ n.1.1.0) in
      let made : Some (Information head) ≡ Some p = sym (first_passed (Some (Information head)) (head_tests master failing named channel long) n) ∙ e in
      let is : Information head ≡ p = cc (made) in
      subst (Numbered v) is (record { values = cc; typed = t })

  all_numbered : made_of v ≡ Some p → Numbered v p
  unfolding made_of
  all_numbered e =
      let made : (Option Packet) =
      cond (eqb identifier 3) (head_made priority number master failing named channel long)
      (short_made identifier priority number master failing named channel long) in
      let n = none_gives made (Some p) (start_tests identifier priority number) (some_packet p, (some_packet p, (some_packet p, (some_packet p, tt)))) e in
      let low : 1 ≤ identifier = ltb-false _ _ n.0 in
      let high : identifier ≤ 3 = ltb-false _ _ n.1.0 in
      let a : priority ≤ 255 = ltb-false _ _ n.1.1.0 in
      let b : number ≤ 65535 = ltb-false _ _ n.1.1.1.0 in
      let t : Typed priority number = record { priority_fits = omega arith; number_fits = omega arith } in
      go t low high (eqb identifier 3) refl (sym (first_passed made (start_tests identifier priority number) n) ∙ e)
    where
      go : Typed priority number → 1 ≤ identifier → identifier ≤ 3 → (b : Bool) → eqb identifier 3 ≡ b
          → cond b (head_made priority number master failing named channel long) (short_made identifier priority number master failing named channel long) ≡ Some p
          → Numbered v p
      go t low high true i e' = head_numbered t (eqb-true _ _ i) e'
      go t low high false i e' = short_numbered t low high (eqb-false _ _ i) e'

pub numbered : (v : List ℕ) (p : Packet) → length v ≡ 8 → made_of v ≡ Some p → Numbered v p
numbered v p long e =
    let all = eight v long in
    subst (λ (l : List ℕ). Numbered l p) (sym all) (all_numbered _ _ _ _ _ _ _ _ p (ap made_of (sym all) ∙ e))

-- ---- and a packet's numbers make it

channel_fits : (ring : List ℕ) (h : Head) (info : List ℕ) → Fit ring (Information h) info → h.channel ≤ 7
channel_fits ring h info e =
    let n = none_holds Sound (write_tests ring (Information h) (length info)) (write_apart ring (Information h) (length info)) e in
    ltb-false _ _ n.1.0

pub made_again : (ring : List ℕ) (p : Packet) (info : List ℕ) → TypedPacket p → Fit ring p info → made_of (values_of p) ≡ Some p
unfolding made_of short_made head_made values_of
made_again ring (Token p) info t e =
    let a : p.priority ≤ 255 = omega (arith, t.priority_fits) in
    let b : p.number ≤ 65535 = omega (arith, t.number_fits) in
    simp (le-ltb 255 p.priority a, le-ltb 65535 p.number b)
made_again ring (Transmit p) info t e =
    let a : p.priority ≤ 255 = omega (arith, t.priority_fits) in
    let b : p.number ≤ 65535 = omega (arith, t.number_fits) in
    simp (le-ltb 255 p.priority a, le-ltb 65535 p.number b)
made_again ring (Information h) info t e =
    let a : h.priority ≤ 255 = omega (arith, t.priority_fits) in
    let b : h.number ≤ 65535 = omega (arith, t.number_fits) in
    let c : h.channel ≤ 65535 = omega (arith, channel_fits ring h info e) in
    let d : h.length ≤ 65535 = omega (arith, (fit_length ring (Information h) (length info) e).1) in
    simp (le-ltb 255 h.priority a, le-ltb 65535 h.number b, le-ltb 65535 h.channel c, le-ltb 65535 h.length d)

-- ---- lengths

pub length_told : (p : Packet) → get_or (values_of p) 7 0 ≡ information_length p
unfolding values_of
length_told (Token p) = refl
length_told (Transmit p) = refl
length_told (Information h) = refl

pub length_packet : (ring : List ℕ) (p : Packet) (info : List ℕ) → Fit ring p info → length (packet_octets p info) ≡ size p
unfolding packet_octets
length_packet ring (Token p) info e = refl
length_packet ring (Transmit p) info e = refl
length_packet ring (Information h) info e =
    let long : length info ≡ h.length = (fit_length ring (Information h) (length info) e).0 in
    length-append (head_octets h) (info ++ zeros (46 - (8 + length info)))
    ∙ ap (λ (n : ℕ). 8 + n) (length-append info (zeros (46 - (8 + length info))))
    ∙ rw (length_zeros (46 - (8 + length info)), long) (omega arith)
