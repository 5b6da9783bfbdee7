-- Laws of the search for the next record that a frame does not leave as it is, and of a handing that goes from one such record to the next. Assumes nothing.
use mathlib.Core.Path.{◌≡◌, refl, sym, ap, subst, ◌∙◌}
use mathlib.Core.Bool.{Bool, true, false}
use mathlib.Core.List.{List}
use Prim.Native.Nat.{ℕ, zero, suc, ◌+◌, ◌-◌, ◌<◌, ◌≤◌}
use native.Mathlib.Numerals.{add-one}
use native.Mathlib.Omega.{arith}
use lib.ListN.{length, get_or, set}
use Rattle.parts.specs.Live.{seats}
use Rattle.station.specs.Heard.{frame_rule}
use Rattle.parts.specs.Frames.{Dispatch}
use Rattle.station.specs.declared.station.Station.{Station}
use Rattle.parts.proofs.Laws.Choose.{pick_true, pick_false}
use Rattle.bench.specs.Ring.{nobody}
use Rattle.bench.specs.Delivery.{is_quiet, reply_to}
use Rattle.bench.specs.Table.{hears, stays_at, touched_in}
use Rattle.bench.specs.declared.table.Handing.{Handing}
use Rattle.bench.proofs.Laws.Passing.{Passed}
use Rattle.bench.proofs.Laws.Turns.{turn_left, turn_heard}

-- ---- the search

module _ (ss : List Station) (h : Handing) where
  touched_none : (p : ℕ) → touched_in 0 ss h p ≡ p
  unfolding touched_in
  touched_none p = refl

  touched_on : (k p : ℕ) → stays_at ss h p ≡ true → touched_in (suc k) ss h p ≡ touched_in k ss h (suc p)
  unfolding touched_in
  touched_on k p e = pick_true _ _ e

  touched_here : (k p : ℕ) → stays_at ss h p ≡ false → touched_in (suc k) ss h p ≡ p
  unfolding touched_in
  touched_here k p e = pick_false _ _ e

  -- where it ends: not before its start, not past its end, and before its end only at a record that does not stay as it is
  pub record Ended (k p t : ℕ) : Type 0 where
    pub from : p ≤ t
    pub upto : t ≤ p + k
    pub found : t < p + k → stays_at ss h t ≡ false

  ended_here : (k p t : ℕ) → stays_at ss h p ≡ false → t ≡ p → Ended k p t
  ended_here k p t e i = record { from = omega arith; upto = omega arith; found = λ _. ap (λ (j : ℕ). stays_at ss h j) i ∙ e }

  pub touched_ends : (k p : ℕ) → Ended k p (touched_in k ss h p)
  touched_ends zero p =
      let e : touched_in 0 ss h p ≡ p = touched_none p in
      record { from = omega arith; upto = omega arith; found = λ less. absurd (omega arith) }
  touched_ends (suc k) p = go (touched_ends k (suc p)) (stays_at ss h p) refl
    where
      go : Ended k (suc p) (touched_in k ss h (suc p)) → (b : Bool) → stays_at ss h p ≡ b → Ended (suc k) p (touched_in (suc k) ss h p)
      go w true e =
          let i : touched_in (suc k) ss h p ≡ touched_in k ss h (suc p) = touched_on k p e in
          let a : suc p ≤ touched_in k ss h (suc p) = w.from in
          let z : touched_in k ss h (suc p) ≤ suc p + k = w.upto in
          record { from = omega arith; upto = omega arith; found = λ less. ap (λ (j : ℕ). stays_at ss h j) i ∙ w.found (omega arith) }
      go w false e = ended_here (suc k) p _ e (touched_here k p e)

  -- the search up to m, one position at a time
  pub touched_next : (m q : ℕ) → q < m → stays_at ss h q ≡ true → touched_in (m - (q + 1)) ss h (q + 1) ≡ touched_in (m - q) ss h q
  touched_next m q less e =
      let i : m - q ≡ suc (m - (q + 1)) = omega arith in
      ap (λ (j : ℕ). touched_in (m - (q + 1)) ss h j) (add-one q)
      ∙ sym (touched_on (m - (q + 1)) q e)
      ∙ ap (λ (k : ℕ). touched_in k ss h q) (sym i)

  pub touched_found : (m q : ℕ) → q < m → stays_at ss h q ≡ false → touched_in (m - q) ss h q ≡ q
  touched_found m q less e =
      let i : m - q ≡ suc (m - (q + 1)) = omega arith in
      ap (λ (k : ℕ). touched_in k ss h q) i ∙ touched_here (m - (q + 1)) q e

  pub touched_over : (m q : ℕ) → m ≤ q → touched_in (m - q) ss h q ≡ q
  touched_over m q over =
      let i : m - q ≡ 0 = omega arith in
      ap (λ (k : ℕ). touched_in k ss h q) i ∙ touched_none q

-- ---- the handing

module _ (h : Handing) (quiet : h.quiet ≡ is_quiet h.frame) (old cur : List Station) (reply : Dispatch) where
  -- whoever the search goes over is passed
  pub passed_over : (k p : ℕ) → Passed h.n (hears h) h.frame h.from h.to old cur reply p
      → Passed h.n (hears h) h.frame h.from h.to old cur reply (touched_in k cur h p)
  passed_over zero p w = rw (touched_none cur h p) w
  passed_over (suc k) p w = go (passed_over k (suc p)) (stays_at cur h p) refl
    where
      go : (Passed h.n (hears h) h.frame h.from h.to old cur reply (suc p) → Passed h.n (hears h) h.frame h.from h.to old cur reply (touched_in k cur h (suc p)))
          → (b : Bool) → stays_at cur h p ≡ b → Passed h.n (hears h) h.frame h.from h.to old cur reply (touched_in (suc k) cur h p)
      go on true e =
          rw (touched_on cur h k p e)
          (on
          (subst (λ (j : ℕ). Passed h.n (hears h) h.frame h.from h.to old cur reply j) (add-one p)
          (turn_left h.n (hears h) h.frame h.from h.to old cur reply p w h.quiet quiet e)))
      go on false e = rw (touched_here cur h k p e) w

  -- what a turn of the handing knows once the next record is found at t
  pub record Found (m p t : ℕ) : Type 0 where
    pub from : p ≤ t
    pub upto : t ≤ m
    pub passed : Passed h.n (hears h) h.frame h.from h.to old cur reply t
    pub touched : t < m → stays_at cur h t ≡ false

  pub finds : (m p t : ℕ) → p ≤ m → Passed h.n (hears h) h.frame h.from h.to old cur reply p → t ≡ touched_in (m - p) cur h p → Found m p t
  finds m p t most w e =
      let w' = touched_ends cur h (m - p) p in
      let a : p ≤ touched_in (m - p) cur h p = w'.from in
      let z : touched_in (m - p) cur h p ≤ p + (m - p) = w'.upto in
      record {
        from = omega arith;
        upto = omega arith;
        passed = rw e (passed_over (m - p) p w);
        touched = λ less. ap (λ (j : ℕ). stays_at cur h j) e ∙ w'.found (omega arith);
      }

  -- the record at t hears the frame
  pub turn_hand : (m p t : ℕ) → m ≡ seats h.n → length cur ≡ 64 → m ≤ 64 → Found m p t → t < m → (sent next : Dispatch) (ws : List Station)
      → sent ≡ (frame_rule (get_or cur t nobody) h.frame h.from h.to).sent
      → ws ≡ set cur t (frame_rule (get_or cur t nobody) h.frame h.from h.to).station
      → next ≡ reply_to t h.to sent reply
      → Passed h.n (hears h) h.frame h.from h.to old ws next (t + 1)
  turn_hand m p t members table most w less sent next ws es ew en =
      rw ew
      (turn_heard h.n (hears h) h.frame h.from h.to old cur reply t w.passed h.quiet quiet (w.touched less)
      (frame_rule (get_or cur t nobody) h.frame h.from h.to) next (omega arith) (omega arith) refl (en ∙ ap (λ (d : Dispatch). reply_to t h.to d reply) es))
