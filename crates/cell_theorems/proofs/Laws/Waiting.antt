-- The message's own packet is the bench's own frame of it, and what is counted and asked of a cell's run is so of the bench's. Assumes nothing.
use mathlib.Core.Path.{◌≡◌, refl, sym, ap, subst, ◌∙◌}
use mathlib.Core.Bool.{Bool, true, false, ◌&&◌, false≢true}
use mathlib.Core.List.{List, [], ◌∷◌, ◌++◌, Memᴰ}
use Prim.Native.Nat.{ℕ, suc, ◌<◌}
use native.Mathlib.Omega.{arith}
use lib.Dec.{eqb}
use borrow.Author.Tests.{eqb-true, eqb-false, eq-eqb, ne_eqb}
use lib.ListN.{length, length-append}
use Rattle.parts.specs.Choose.{pick}
use Rattle.parts.specs.Messages.{all, flies, lowest_free}
use Rattle.parts.specs.Frames.{flight, Dispatch}
use Rattle.station.specs.Stations.{awaited_of}
use Rattle.station.specs.declared.station.Station.{Station}
use Rattle.driver_calls.specs.Calls.{station_in}
use Rattle.bench.specs.Delivery.{step}
use Rattle.bench.specs.Rows.{rows_on}
use Rattle.bench.specs.Runs.{after_event}
use Rattle.bench.specs.declared.ring.Bench.{Bench}
use Rattle.bench.specs.declared.rows.Row.{Row}
use Rattle.bench_theorems.specs.Counting.{steps_in}
use Rattle.waiting.specs.Waiting.{Spot, spot_for, own, before, goes, OnTop, Until, StaysOnTop, is_at}
use Rattle.cell_theorems.specs.Cell.{Transit, Cell, members, address_at, Act, handed, asked, Run, done, hand_on, ask}
use Rattle.cell_theorems.specs.AsBench.{events, rows, row_of}
use Rattle.cell_theorems.specs.Waiting.{spot_in, own_in, before_in, goes_in, OnTopIn, StaysOnTopIn, steps_of}
use Rattle.cell_theorems.proofs.Laws.Files.{same_position}
use Rattle.cell_theorems.proofs.Laws.Matching.{Matches, from_inside, sender_awaits}
use Rattle.cell_theorems.proofs.Laws.Steps.{step_matches}
use Rattle.cell_theorems.proofs.Laws.Queues.{queue_matches}
use Rattle.cell_theorems.proofs.Laws.Rows.{row_same, one_row}

-- ---- a step that composes it ends the count

rows_pick : (file : List ℕ) (t : Bool) (w : Transit) (ws : List Transit) → rows file (pick t [] (w ∷ ws)) ≡ pick t [] (row_of file w ++ rows file ws)
unfolding pick rows
rows_pick file true w ws = refl
rows_pick file false w ws = refl

-- each packet has one row
length_pick : (t : Bool) (w : Transit) (ws : List Transit) (row rs : List Row) → length row ≡ 1 → length ws ≡ length rs
    → length (pick t [] (w ∷ ws)) ≡ length (pick t [] (row ++ rs))
unfolding pick
length_pick true w ws row rs e f = refl
length_pick false w ws row rs e f = omega (arith, length-append row rs, e, f)

until : (t u : Bool) (A B : Type 0) → t ≡ u → (A → B) → Until t A → Until u B
until true true A B e f a = tt
until false false A B e f a = f a
until true false A B e f a = absurd (false≢true (sym e))
until false true A B e f a = tt

-- ---- whose the packet on the wire is

abbrev Its : ℕ → Bool → Dispatch → Bool
Its place t d = t && is_at (flight d) place

module _ (file : List ℕ) (x : Spot) (member : x.station < members file) where
  pub own_same : {c : Cell} {b : Bench} → Matches file c b → own_in file x c ≡ own x b.wire
  unfolding own_in own
  own_same {c} {b} m = go (eqb b.wire.from x.station) refl
    where
      go : (t : Bool) → eqb b.wire.from x.station ≡ t
          → Its x.place (eqb c.wire.from (address_at file x.station)) (awaited_of (station_in (c.node x.station).rec))
          ≡ Its x.place (eqb b.wire.from x.station) b.wire.sent
      go true e =
          let same : b.wire.from ≡ x.station = eqb-true b.wire.from x.station e in
          let address : c.wire.from ≡ address_at file x.station = m.wire.from_address ∙ ap (address_at file) same in
          let awaits : awaited_of (station_in (c.node x.station).rec) ≡ b.wire.sent =
          ap (λ (p : ℕ). awaited_of (station_in (c.node p).rec)) (sym same) ∙ sender_awaits m in
          ap (λ (t : Bool). Its x.place t (awaited_of (station_in (c.node x.station).rec))) (eq-eqb _ _ address ∙ sym e)
          ∙ ap (Its x.place (eqb b.wire.from x.station)) awaits
      go false e =
          let other : c.wire.from ≡ address_at file x.station → ⊥ =
          λ z. eqb-false b.wire.from x.station e
          (same_position file m.good b.wire.from x.station (from_inside m) member (sym m.wire.from_address ∙ z)) in
          ap (λ (t : Bool). Its x.place t (awaited_of (station_in (c.node x.station).rec))) (ne_eqb _ _ other)
          ∙ ap (λ (t : Bool). Its x.place t b.wire.sent) (sym e)

  -- ---- what is counted

  pub before_same : {c : Cell} {b : Bench} {acts : List Act} {c' : Cell} → Matches file c b → (r : Run file c acts c')
      → rows file (before_in x r) ≡ before x b (events file acts)
  unfolding before_in before events rows after_event
  before_same m (done c) = refl
  before_same {b = b} m (hand_on c c₁ c' acts h r) =
      let k = step_matches file c c₁ b m h in
      rows_pick file (own_in file x c₁) c₁.wire (before_in x r)
      ∙ ap (λ (t : Bool). pick t [] (row_of file c₁.wire ++ rows file (before_in x r))) (own_same k)
      ∙ ap (λ (l : List Row). pick (own x (step b).wire) [] (l ++ rows file (before_in x r))) (row_same k)
      ∙ ap (λ (l : List Row). pick (own x (step b).wire) [] (rows_on (step b).wire ++ l)) (before_same k r)
  before_same {b = b} m (ask c c₁ c' a acts q r) = before_same (queue_matches file c c₁ b m a q) r

  pub before_length : {c : Cell} {b : Bench} {acts : List Act} {c' : Cell} → Matches file c b → (r : Run file c acts c')
      → length (before_in x r) ≡ length (before x b (events file acts))
  unfolding before_in before events after_event
  before_length m (done c) = refl
  before_length {b = b} m (hand_on c c₁ c' acts h r) =
      let k = step_matches file c c₁ b m h in
      ap (λ (t : Bool). length (pick t [] (c₁.wire ∷ before_in x r))) (own_same k)
      ∙ length_pick (own x (step b).wire) c₁.wire (before_in x r) (rows_on (step b).wire) (before x (step b) (events file acts)) (one_row k) (before_length k r)
  before_length {b = b} m (ask c c₁ c' a acts q r) = before_length (queue_matches file c c₁ b m a q) r

  pub goes_same : {c : Cell} {b : Bench} {acts : List Act} {c' : Cell} → Matches file c b → (r : Run file c acts c')
      → goes_in x r ≡ goes x b (events file acts)
  unfolding goes_in goes events after_event
  goes_same m (done c) = refl
  goes_same {b = b} m (hand_on c c₁ c' acts h r) =
      let k = step_matches file c c₁ b m h in
      ap (λ (t : Bool). pick t true (goes_in x r)) (own_same k) ∙ ap (pick (own x (step b).wire) true) (goes_same k r)
  goes_same {b = b} m (ask c c₁ c' a acts q r) = goes_same (queue_matches file c c₁ b m a q) r

  -- ---- what is asked

  module _ (priority : ℕ) where
    pub top_same : {c : Cell} {b : Bench} → Matches file c b → OnTopIn file x priority c → OnTop x priority b
    top_same m t p h i w o =
        let k : p < members file = omega (arith, m.size, h) in
        t p k i
        (record {
          listed = subst (λ (s : Station). Memᴰ i (all s.sends)) (sym (m.stations p k)) w.listed;
          rests = ap (λ (s : Station). flies (flight (awaited_of s)) i) (m.stations p k) ∙ w.rests;
        })
        o

    pub top_back : {c : Cell} {b : Bench} → Matches file c b → OnTop x priority b → OnTopIn file x priority c
    top_back m t p k i w o =
        t p (omega (arith, m.size, k)) i
        (record {
          listed = subst (λ (s : Station). Memᴰ i (all s.sends)) (m.stations p k) w.listed;
          rests = ap (λ (s : Station). flies (flight (awaited_of s)) i) (sym (m.stations p k)) ∙ w.rests;
        })
        o

    pub stays_same : {c : Cell} {b : Bench} {acts : List Act} {c' : Cell} → Matches file c b → (r : Run file c acts c')
        → StaysOnTopIn x priority r → StaysOnTop x priority b (events file acts)
    unfolding StaysOnTopIn StaysOnTop events after_event
    stays_same m (done c) t = top_same m t
    stays_same {b = b} m (hand_on c c₁ c' acts h r) t =
        let k = step_matches file c c₁ b m h in
        (top_same m t.0, until _ _ _ _ (own_same k) (stays_same k r) t.1)
    stays_same {b = b} m (ask c c₁ c' a acts q r) t = (top_same m t.0, stays_same (queue_matches file c c₁ b m a q) r t.1)

    pub stays_back : {c : Cell} {b : Bench} {acts : List Act} {c' : Cell} → Matches file c b → (r : Run file c acts c')
        → StaysOnTop x priority b (events file acts) → StaysOnTopIn x priority r
    unfolding StaysOnTopIn StaysOnTop events after_event
    stays_back m (done c) t = top_back m t
    stays_back {b = b} m (hand_on c c₁ c' acts h r) t =
        let k = step_matches file c c₁ b m h in
        (top_back m t.0, until _ _ _ _ (sym (own_same k)) (stays_back k r) t.1)
    stays_back {b = b} m (ask c c₁ c' a acts q r) t = (top_back m t.0, stays_back (queue_matches file c c₁ b m a q) r t.1)

pub spot_same : {file : List ℕ} {c : Cell} {b : Bench} → Matches file c b → (p : ℕ) → p < members file → spot_in c p ≡ spot_for b p
spot_same m p h =
    ap (λ (s : Station). let z : Spot = record { station = p; place = lowest_free (all s.sends) } in z) (m.stations p h)

pub steps_same : (file : List ℕ) (acts : List Act) → steps_in (events file acts) ≡ steps_of acts
unfolding steps_in events steps_of
steps_same file [] = refl
steps_same file (handed ∷ acts) = ap suc (steps_same file acts)
steps_same file (asked a ∷ acts) = steps_same file acts
