-- A made station's record: the ring file, zeros up to the end, and over them own position and the live seats' ones. Assumes nothing.
use mathlib.Core.Path.{◌≡◌, refl, sym, ap, ◌∙◌}
use mathlib.Core.Bool.{Bool, true, false}
use mathlib.Core.List.{List, ◌∷◌, ◌++◌, append_assoc}
use Prim.Native.Nat.{ℕ, zero, suc, ◌+◌, ◌-◌, ◌<◌, ◌≤◌}
use native.Mathlib.Omega.{arith}
use borrow.Author.Tests.{ltb-true, ltb-false}
use lib.Dec.{ltb}
use lib.ListN.{length, take, drop, set, replicate, length-append, length-replicate, get_or-replicate, replicate-append-replicate}
use lib.Seq.{length-take-le, take_at, drop_at, drop-drop}
use Rattle.codec.specs.Octets.{octets, laid, zeros}
use Rattle.codec.proofs.Laws.Octets.{length_zeros, length_laid, laid_laid, laid_more, then_laid}
use Rattle.parts.specs.Live.{seats, full}
use Rattle.parts.proofs.Laws.Live.{seats_inside, seats_all}
use Rattle.station.specs.Stations.{made}
use Rattle.records.specs.Layout.{ring_room, own_at, state_at, lost_at, live_at, sends_at, record_length}
use Rattle.records.specs.Tables.{joined}
use Rattle.records.specs.Fields.{flag_number, flag_octets, live_octets, turn_octets, slip_of, ones}
use Rattle.records.specs.Record.{counts_octets, lists_octets, station_octets, ring_octets, record_octets}
use Rattle.records.proofs.Laws.Sizes.{length_ring}

-- ---- ones, one after the other

pub length_ones : (n : ℕ) → length (ones n) ≡ n
length_ones n = length-replicate n 1

-- one more: what a copy of ones does
pub one_more : (l out : List ℕ) (at n i : ℕ) → i < n → at + n ≤ length l → out ≡ laid l at (take i (ones n)) → set out (at + i) 1 ≡ laid l at (take (i + 1) (ones n))
one_more l out at n i more room e =
    let long : length (ones n) ≡ n = length_ones n in
    ap (set out (at + i)) (sym (get_or-replicate n i 1 0 more)) ∙ laid_more l out (ones n) at i (rw long more) (omega arith) e

-- ---- octets laid over some of those that were laid before

module _ (y z y' : List ℕ) (same : length y' ≡ length y) where
  -- over the first of them
  laid_again : (l : List ℕ) (at : ℕ) → at ≤ length l → laid (laid l at (y ++ z)) at y' ≡ laid l at (y' ++ z)
  laid_again l at h =
      let front : List ℕ = take at l in
      let long : length front ≡ at = length-take-le at l h in
      let back : List ℕ = drop (at + length (y ++ z)) l in
      let all : List ℕ = (y ++ z) ++ back in
      let rest : drop (at + length y') (front ++ all) ≡ z ++ back =
      ap (λ (k : ℕ). drop (at + k) (front ++ all)) same
      ∙ sym (drop-drop (length y) at (front ++ all))
      ∙ ap (drop (length y)) (drop_at front all at long ∙ append_assoc y z back)
      ∙ drop_at y (z ++ back) (length y) refl in
      let sized : length (y' ++ z) ≡ length (y ++ z) = length-append y' z ∙ ap (λ (k : ℕ). k + length z) same ∙ sym (length-append y z) in
      rw (take_at front all at long, rest, sized) (ap (λ (o : List ℕ). front ++ o) (sym (append_assoc y' z back)))

  -- over some in their middle, as a chain of calls has it
  laid_inside : (l l₁ l₂ x : List ℕ) (at next : ℕ) → at + length x ≡ next → next ≤ length l → l₁ ≡ laid l at (x ++ (y ++ z)) → l₂ ≡ laid l₁ next y'
      → l₂ ≡ laid l at (x ++ (y' ++ z))
  laid_inside l l₁ l₂ x at next e h p q =
      let base : List ℕ = laid l at x in
      let room : next ≤ length base = omega (arith, length_laid l x at (rw e h)) in
      q
      ∙ ap (λ (o : List ℕ). laid o next y') (p ∙ sym (laid_laid l x (y ++ z) at next e h))
      ∙ laid_again base next room
      ∙ laid_laid l x (y' ++ z) at next e h

-- ---- the octets of a made station

seats_few : (n : ℕ) → n ≤ 64 → seats n ≡ n
seats_few n h = go (ltb n 64) refl
  where
    go : (b : Bool) → ltb n 64 ≡ b → seats n ≡ n
    go true e = seats_inside n (ltb-true n 64 e)
    go false e = let full : n ≡ 64 = omega (arith, ltb-false n 64 e) in seats_all n (ltb-false n 64 e) ∙ sym full

flags_then : (k : ℕ) (b : Bool) (rest : List Bool) → joined flag_octets (replicate k b ++ rest) ≡ replicate k (flag_number b) ++ joined flag_octets rest
unfolding joined
flags_then zero b rest = refl
flags_then (suc k) true rest = ap (λ (o : List ℕ). 1 ∷ o) (flags_then k true rest)
flags_then (suc k) false rest = ap (λ (o : List ℕ). 0 ∷ o) (flags_then k false rest)

flags_same : (k : ℕ) (b : Bool) → joined flag_octets (replicate k b) ≡ replicate k (flag_number b)
unfolding joined
flags_same zero b = refl
flags_same (suc k) true = ap (λ (o : List ℕ). 1 ∷ o) (flags_same k true)
flags_same (suc k) false = ap (λ (o : List ℕ). 0 ∷ o) (flags_same k false)

live_made : (n : ℕ) → n ≤ 64 → live_octets (full n) ≡ ones n ++ zeros (64 - n)
unfolding full
live_made n h =
    rw (seats_few n h) (flags_then n true (replicate (64 - n) false) ∙ ap (λ (o : List ℕ). ones n ++ o) (flags_same (64 - n) false))

turn_made : (n own : ℕ) → turn_octets own (made n 0 own).turn ≡ octets 1 own ++ zeros (lost_at - state_at)
unfolding slip_of
turn_made n own = refl

lists_made : (n own : ℕ) → lists_octets (made n 0 own) ≡ zeros (record_length - sends_at)
unfolding joined
lists_made n own = refl

zeros_split : (k a b : ℕ) → k ≡ a + b → zeros k ≡ zeros a ++ zeros b
zeros_split k a b e = ap zeros e ∙ sym (replicate-append-replicate a b 0)

-- the parts that are zeros, side by side
parts_made : (t c v s o w : List ℕ) (a b d e f g : ℕ) → t ≡ o ++ zeros a → c ≡ zeros b → v ≡ w ++ zeros d → s ≡ zeros e → f ≡ a + b → g ≡ d + e
    → (t ++ (c ++ v)) ++ s ≡ o ++ (zeros f ++ (w ++ zeros g))
parts_made t c v s o w a b d e f g et ec ev es ef eg = rw (et, ec, ev, es, zeros_split f a b ef, zeros_split g d e eg) (simp append_assoc refl)

station_made : (n own : ℕ) → n ≤ 64 → station_octets (made n 0 own) ≡ octets 1 own ++ (zeros (live_at - state_at) ++ (ones n ++ zeros (record_length - live_at - n)))
station_made n own h =
    parts_made (turn_octets own (made n 0 own).turn) (counts_octets (made n 0 own).counts) (live_octets (full n)) (lists_octets (made n 0 own)) (octets 1 own) (ones n) (lost_at - state_at) (live_at - lost_at) (64 - n) (record_length - sends_at) (live_at - state_at) (record_length - live_at - n)
    (turn_made n own) refl (live_made n h) (lists_made n own) refl (omega arith)

-- ---- the writes one after the other

module _ (l l₁ l₂ l₃ l₄ file : List ℕ) (n own : ℕ) (long : record_length ≤ length l) (fits : length file ≤ ring_room) (few : n ≤ 64) where
  zeros_after : l₁ ≡ laid l 0 file → l₂ ≡ laid l₁ (length file) (zeros (record_length - length file)) → l₂ ≡ laid l 0 (ring_octets file ++ (zeros 1 ++ zeros (record_length - state_at)))
  zeros_after p q =
      let m : ℕ = length file in
      let e : zeros (record_length - m) ≡ zeros (ring_room - m) ++ (zeros 1 ++ zeros (record_length - state_at)) =
      zeros_split (record_length - m) (ring_room - m) (record_length - own_at) (omega arith) ∙ ap (λ (o : List ℕ). zeros (ring_room - m) ++ o) (zeros_split (record_length - own_at) 1 (record_length - state_at) refl) in
      then_laid l l₁ l₂ file (zeros (record_length - m)) 0 m (omega arith) (omega arith) p q
      ∙ ap (laid l 0) (ap (λ (o : List ℕ). file ++ o) e ∙ sym (append_assoc file (zeros (ring_room - m)) (zeros 1 ++ zeros (record_length - state_at))))

  own_over : l₂ ≡ laid l 0 (ring_octets file ++ (zeros 1 ++ zeros (record_length - state_at))) → l₃ ≡ laid l₂ own_at (octets 1 own)
      → l₃ ≡ laid l 0 (ring_octets file ++ (octets 1 own ++ zeros (record_length - state_at)))
  own_over p q =
      laid_inside (zeros 1) (zeros (record_length - state_at)) (octets 1 own) refl l l₂ l₃ (ring_octets file) 0 own_at (omega (arith, length_ring file fits)) (omega arith) p q

  abbrev before : List ℕ
  before = ring_octets file ++ (octets 1 own ++ zeros (live_at - state_at))

  length_before : 0 + length before ≡ live_at
  length_before = omega (arith, length-append (ring_octets file) (octets 1 own ++ zeros (live_at - state_at)), length_ring file fits)

  regroup : (w : List ℕ) → ring_octets file ++ (octets 1 own ++ (zeros (live_at - state_at) ++ w)) ≡ before ++ w
  regroup w = simp append_assoc refl

  ones_over : l₃ ≡ laid l 0 (ring_octets file ++ (octets 1 own ++ zeros (record_length - state_at))) → l₄ ≡ laid l₃ live_at (ones n) → l₄ ≡ laid l 0 (before ++ (ones n ++ zeros (record_length - live_at - n)))
  ones_over p q =
      let e : zeros (record_length - state_at) ≡ zeros (live_at - state_at) ++ (zeros n ++ zeros (record_length - live_at - n)) =
      zeros_split (record_length - state_at) (live_at - state_at) (record_length - live_at) refl ∙ ap (λ (o : List ℕ). zeros (live_at - state_at) ++ o) (zeros_split (record_length - live_at) n (record_length - live_at - n) (omega arith)) in
      laid_inside (zeros n) (zeros (record_length - live_at - n)) (ones n) (length_ones n ∙ sym (length_zeros n)) l l₃ l₄ before 0 live_at length_before (omega arith)
      (p ∙ ap (laid l 0) (ap (λ (o : List ℕ). ring_octets file ++ (octets 1 own ++ o)) e ∙ regroup (zeros n ++ zeros (record_length - live_at - n)))) q

  pub record_made : l₁ ≡ laid l 0 file → l₂ ≡ laid l₁ (length file) (zeros (record_length - length file)) → l₃ ≡ laid l₂ own_at (octets 1 own) → l₄ ≡ laid l₃ live_at (ones n)
      → l₄ ≡ laid l 0 (record_octets file (made n 0 own))
  record_made p q r t =
      ones_over (own_over (zeros_after p q) r) t
      ∙ ap (laid l 0) (sym (regroup (ones n ++ zeros (record_length - live_at - n))) ∙ ap (λ (o : List ℕ). ring_octets file ++ o) (sym (station_made n own few)))
