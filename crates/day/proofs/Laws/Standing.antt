-- Laws of the end's lines, laid over a buffer. Assumes nothing.
use mathlib.Core.Path.{◌≡◌, refl, sym, ap, ◌∙◌}
use mathlib.Core.List.{List, ◌∷◌, ◌++◌, append_assoc}
use Prim.Native.Nat.{ℕ, zero, suc, ◌+◌, ◌-◌, ◌<◌, ◌≤◌}
use native.Mathlib.Nat.{add-zero}
use native.Mathlib.Omega.{arith}
use lib.ListN.{length, set, get_or, drop, length-append, drop_of_length-le}
use lib.Seq.{drop-cons}
use Rattle.codec.specs.Octets.{laid}
use Rattle.bench.specs.Text.{space, line_feed, cell}
use Rattle.codec.proofs.Laws.Octets.{laid_none, laid_before, laid_three}
use Rattle.parts.specs.Choose.{pick}
use Rattle.parts.specs.Live.{live_at, seats}
use Rattle.parts.proofs.Laws.Live.{seats_most}
use Rattle.parts.specs.declared.live.Live.{Live}
use Rattle.parts.specs.declared.moves.State.{State}
use Rattle.parts.specs.declared.moves.State.TheVariants.{Offline, Idle, Waiting, Alone, Excluded}
use Rattle.station.specs.Stations.{state_of}
use Rattle.station.specs.declared.station.Station.{Station}
use Rattle.bench.proofs.Laws.Laying.{laid_both, cell_short}
use Rattle.day.specs.Printed.{live_text, state_text, lists_text, counts_text, station_text}

-- ---- a text laid from its end

module _ (l out t : List ℕ) (at left : ℕ) where
  pub end_none : length t ≤ left → l ≡ laid l (at + left) (drop left t)
  end_none h = rw (drop_of_length-le t h) (sym (laid_none l (at + left)))

  pub end_more : (d : ℕ) → 0 < left → left ≤ length t → at + length t ≤ length l → out ≡ laid l (at + left) (drop left t) → d ≡ get_or t (left - 1) 0
      → set out (at + (left - 1)) d ≡ laid l (at + (left - 1)) (drop (left - 1) t)
  end_more d some within h eo ed =
      let e : at + left ≡ suc (at + (left - 1)) = omega arith in
      let g : left ≡ suc (left - 1) = omega arith in
      let f : drop (left - 1) t ≡ get_or t (left - 1) 0 ∷ drop left t = drop-cons t (left - 1) 0 (omega arith) ∙ ap (λ (k : ℕ). get_or t (left - 1) 0 ∷ drop k t) (sym g) in
      rw (eo, ed, f, e) (laid_before l (drop left t) (at + (left - 1)) (get_or t (left - 1) 0) (omega arith))

  pub end_all : left ≡ 0 → out ≡ laid l (at + left) (drop left t) → out ≡ laid l at t
  end_all z eo = let e : at + left ≡ at = omega arith in eo ∙ rw (e, z)

-- ---- the live set

pub length_live : (live : Live) (k p : ℕ) → length (live_text live k p) ≡ k + 1
unfolding live_text
length_live live zero p = refl
length_live live (suc k) p = ap suc (length_live live k (suc p)) ∙ omega arith

pub live_octet : (live : Live) (k p i : ℕ) → i < k → get_or (live_text live k p) i 0 ≡ pick (live_at live (p + i)) 49 48
unfolding live_text
live_octet live zero p i h = absurd (omega arith)
live_octet live (suc k) p zero h = rw (add-zero p)
live_octet live (suc k) p (suc i) h =
    let e : suc p + i ≡ p + suc i = omega arith in
    live_octet live k (suc p) i (omega arith) ∙ rw e

pub live_space : (live : Live) (k p : ℕ) → get_or (live_text live k p) k 0 ≡ space
unfolding live_text
live_space live zero p = refl
live_space live (suc k) p = live_space live k (suc p)

-- ---- a state

pub state_laid : (l l₁ : List ℕ) (at : ℕ) (s t : State) → s ≡ t → l₁ ≡ laid l at (state_text t) → (l₁ ≡ laid l at (state_text s)) × (at + length (state_text t) ≡ at + length (state_text s))
state_laid l l₁ at s t e p = rw e (p, refl)

pub state_short : (s : State) → length (state_text s) ≤ 9
state_short Offline = omega arith
state_short Idle = omega arith
state_short Waiting = omega arith
state_short Alone = omega arith
state_short Excluded = omega arith

-- ---- a station's line

pub pair_short : (v u behind : ℕ) → length (cell v space ++ cell u behind) ≤ 12
pair_short v u behind = omega (arith, length-append (cell v space) (cell u behind), cell_short v space, cell_short u behind)

pub live_short : (live : Live) (n : ℕ) → length (live_text live (seats n) 0) ≤ 65
live_short live n = omega (arith, length_live live (seats n) 0, seats_most n)

-- what stands before the numbers
abbrev pub standing : ℕ → ℕ → Station → List ℕ
standing n p s = cell p space ++ (state_text (state_of s) ++ live_text s.live (seats n) 0)

pub standing_short : (n p : ℕ) (s : Station) → length (standing n p s) ≤ 80
standing_short n p s =
    omega (arith, length-append (cell p space) (state_text (state_of s) ++ live_text s.live (seats n) 0), length-append (state_text (state_of s)) (live_text s.live (seats n) 0), cell_short p space, state_short (state_of s), live_short s.live n)

pub standing_laid : (l l₁ l₂ l₃ : List ℕ) (at a b r n p : ℕ) (s : Station) → at + 80 ≤ length l
    → l₁ ≡ laid l at (cell p space) → a ≡ at + length (cell p space)
    → l₂ ≡ laid l₁ a (state_text (state_of s)) → b ≡ a + length (state_text (state_of s))
    → l₃ ≡ laid l₂ b (live_text s.live (seats n) 0) → r ≡ b + length (live_text s.live (seats n) 0)
    → (l₃ ≡ laid l at (standing n p s)) × (r ≡ at + length (standing n p s))
standing_laid l l₁ l₂ l₃ at a b r n p s h e₁ ea e₂ eb e₃ er =
    let x : List ℕ = cell p space in
    let y : List ℕ = state_text (state_of s) in
    let z : List ℕ = live_text s.live (seats n) 0 in
    let f : length x ≤ 6 = cell_short p space in
    let g : length y ≤ 9 = state_short (state_of s) in
    (laid_three l l₁ l₂ l₃ x y z at a b (sym ea) (sym eb) (omega arith) e₁ e₂ e₃, omega (arith, length-append x (y ++ z), length-append y z))

pub numbers_short : (s : Station) → length (lists_text s ++ counts_text s) ≤ 24
unfolding lists_text counts_text
numbers_short s =
    omega (arith, length-append (lists_text s) (counts_text s), pair_short s.sends.len s.receives.len space, pair_short s.counts.lost s.counts.givenup line_feed)

pub station_laid : (l l₁ l₂ : List ℕ) (at a r n p : ℕ) (s : Station) → at + 104 ≤ length l
    → l₁ ≡ laid l at (standing n p s) → a ≡ at + length (standing n p s)
    → l₂ ≡ laid l₁ a (lists_text s ++ counts_text s) → r ≡ a + length (lists_text s ++ counts_text s)
    → (l₂ ≡ laid l at (station_text n p s)) × (r ≡ at + length (station_text n p s))
unfolding station_text
station_laid l l₁ l₂ at a r n p s h e₁ ea e₂ er =
    let x : List ℕ = cell p space in
    let y : List ℕ = state_text (state_of s) in
    let z : List ℕ = live_text s.live (seats n) 0 in
    let w : List ℕ = lists_text s ++ counts_text s in
    let e : standing n p s ++ w ≡ station_text n p s = append_assoc x (y ++ z) w ∙ ap (λ (t : List ℕ). x ++ t) (append_assoc y z w) in
    rw (← e)
    (laid_both l l₁ l₂ (standing n p s) w at a r (omega (arith, h, standing_short n p s, numbers_short s)) ea er e₁ e₂)
