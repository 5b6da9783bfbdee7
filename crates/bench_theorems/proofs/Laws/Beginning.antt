-- How a ring begins: each member has been made and has started, and the first frame is on the wire. Assumes nothing.
use mathlib.Core.Path.{◌≡◌, refl, sym, ap, ◌∙◌}
use mathlib.Core.Bool.{Bool, true, false}
use Prim.Native.Nat.{ℕ, zero, suc, ◌-◌, ◌<◌, ◌≤◌}
use native.Mathlib.Omega.{arith}
use lib.Dec.{ltb}
use lib.ListN.{length, length-set, length-replicate}
use lib.Seq.{get_or-set_same, get_or-set_other}
use borrow.Author.Tests.{ltb-true, ltb-false}
use Rattle.parts.specs.Live.{seats}
use Rattle.parts.specs.declared.frame.Frame.{Frame}
use Rattle.std.specs.Prelude.{Some}
use Rattle.bench.specs.Ring.{nobody, station_at, on_wire, first_answer, start_at, start_down, empty_bench, ring_with}
use Rattle.bench.specs.declared.ring.Bench.{Bench}
use Rattle.bench.proofs.Laws.Starting.{start_one}
use Rattle.bench_theorems.proofs.Laws.FullSet.{seats_most}

start_zero : (limit : ℕ) (b : Bench) → start_down limit 0 b ≡ b
unfolding start_down
start_zero limit b = refl

module _ (limit : ℕ) where
  -- ---- one start

  one_n : (b : Bench) (k : ℕ) → (start_at limit b k).n ≡ b.n
  unfolding start_at
  one_n b k = refl

  one_length : (b : Bench) (k : ℕ) → length (start_at limit b k).stations ≡ length b.stations
  unfolding start_at
  one_length b k = length-set b.stations k (first_answer b.n limit k).station

  one_here : (b : Bench) (k : ℕ) → k < length b.stations → station_at (start_at limit b k) k ≡ (first_answer b.n limit k).station
  unfolding start_at
  one_here b k h = get_or-set_same b.stations k (first_answer b.n limit k).station nobody h

  one_other : (b : Bench) (k p : ℕ) → (p ≡ k → ⊥) → station_at (start_at limit b k) p ≡ station_at b p
  unfolding start_at
  one_other b k p o = get_or-set_other b.stations k p (first_answer b.n limit k).station nobody o

  one_wire : (b : Bench) (k : ℕ) (f : Frame) (to : ℕ) → (first_answer b.n limit k).sent ≡ Some (f, to) → (start_at limit b k).wire ≡ record { from = k; sent = Some (f, to) }
  unfolding start_at on_wire
  one_wire b k f to e = ap (on_wire b.wire k) e

  -- ---- all starts

  all_n : (k : ℕ) (b : Bench) → (start_down limit k b).n ≡ b.n
  all_n zero b = ap (λ (c : Bench). c.n) (start_zero limit b)
  all_n (suc k) b = ap (λ (c : Bench). c.n) (start_one limit b k) ∙ all_n k (start_at limit b k) ∙ one_n b k

  all_length : (k : ℕ) (b : Bench) → length (start_down limit k b).stations ≡ length b.stations
  all_length zero b = ap (λ (c : Bench). length c.stations) (start_zero limit b)
  all_length (suc k) b = ap (λ (c : Bench). length c.stations) (start_one limit b k) ∙ all_length k (start_at limit b k) ∙ one_length b k

  -- who does not start stays
  all_above : (k : ℕ) (b : Bench) (p : ℕ) → k ≤ p → station_at (start_down limit k b) p ≡ station_at b p
  all_above zero b p h = ap (λ (c : Bench). station_at c p) (start_zero limit b)
  all_above (suc k) b p h =
      ap (λ (c : Bench). station_at c p) (start_one limit b k) ∙ all_above k (start_at limit b k) p (omega arith) ∙ one_other b k p (λ e. omega arith)

  all_below : (k : ℕ) (b : Bench) (p : ℕ) → k ≤ length b.stations → p < k → station_at (start_down limit k b) p ≡ (first_answer b.n limit p).station
  all_below zero b p fits h = absurd (omega arith)
  all_below (suc k) b p fits h = ap (λ (c : Bench). station_at c p) (start_one limit b k) ∙ go (ltb p k) refl (λ i. all_below k (start_at limit b k) p (omega (arith, one_length b k)) i)
    where
      go : (t : Bool) → ltb p k ≡ t → (p < k → station_at (start_down limit k (start_at limit b k)) p ≡ (first_answer (start_at limit b k).n limit p).station)
          → station_at (start_down limit k (start_at limit b k)) p ≡ (first_answer b.n limit p).station
      go true e rest = rest (ltb-true p k e) ∙ ap (λ (n : ℕ). (first_answer n limit p).station) (one_n b k)
      go false e rest =
          let low : k ≤ p = ltb-false p k e in
          let same : p ≡ k = omega arith in
          all_above k (start_at limit b k) p low
          ∙ ap (station_at (start_at limit b k)) same
          ∙ one_here b k (omega arith)
          ∙ ap (λ (i : ℕ). (first_answer b.n limit i).station) (sym same)

  -- station 0 starts last, and its frame is on the wire
  all_wire : (k : ℕ) (b : Bench) (f : Frame) (to : ℕ) → (first_answer b.n limit 0).sent ≡ Some (f, to) → (start_down limit (suc k) b).wire ≡ record { from = 0; sent = Some (f, to) }
  all_wire zero b f to e =
      ap (λ (c : Bench). c.wire) (start_one limit b 0) ∙ ap (λ (c : Bench). c.wire) (start_zero limit (start_at limit b 0)) ∙ one_wire b 0 f to e
  all_wire (suc k) b f to e =
      ap (λ (c : Bench). c.wire) (start_one limit b (suc k))
      ∙ all_wire k (start_at limit b (suc k)) f to (ap (λ (n : ℕ). (first_answer n limit 0).sent) (one_n b (suc k)) ∙ e)

-- ---- the ring

module _ (n limit : ℕ) (two : 2 ≤ n) (most : n ≤ 64) where
  empty_length : length (empty_bench n).stations ≡ 64
  empty_length = length-replicate 64 nobody

  pub ring_n : (ring_with n limit).n ≡ n
  unfolding ring_with
  ring_n = all_n limit (seats n) (empty_bench n)

  pub ring_length : length (ring_with n limit).stations ≡ 64
  unfolding ring_with
  ring_length = all_length limit (seats n) (empty_bench n) ∙ empty_length

  pub ring_at : (p : ℕ) → p < n → station_at (ring_with n limit) p ≡ (first_answer n limit p).station
  unfolding ring_with
  ring_at p h = all_below limit (seats n) (empty_bench n) p (omega (arith, empty_length, seats_most n most)) (omega (arith, seats_most n most))

  pub ring_wire : (f : Frame) (to : ℕ) → (first_answer n limit 0).sent ≡ Some (f, to) → (ring_with n limit).wire ≡ record { from = 0; sent = Some (f, to) }
  unfolding ring_with
  ring_wire f to e =
      let one : seats n ≡ suc (n - 1) = seats_most n most ∙ omega arith in
      ap (λ (k : ℕ). (start_down limit k (empty_bench n)).wire) one ∙ all_wire limit (n - 1) (empty_bench n) f to e
