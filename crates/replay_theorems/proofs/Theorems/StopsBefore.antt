-- A stopped run leaves what the run of the records before the refused one leaves, and prints what that prints but for the stop line.
-- A run that is not stopped has done every record. Assumes nothing.
use mathlib.Core.Path.{◌≡◌, refl, sym, ap, ◌∙◌}
use mathlib.Core.Bool.{Bool}
use mathlib.Core.List.{List, [], ◌∷◌, ◌++◌, append_assoc, append-nil}
use Prim.Native.Nat.{ℕ, suc, ◌+◌}
use native.Mathlib.Omega.{arith}
use lib.ListN.{length}
use Rattle.day.specs.Day.{Day}
use Rattle.day.specs.Printed.{start_text, stopped_text, end_text}
use Rattle.replay.specs.Runs.{Record, good, bad, Course, stopped, record_number, turn, turn_text, gone, gone_text, begun, day_text, records_of, asked_all}
use Rattle.replay.proofs.Laws.Running.{gone_one, text_one, gone_none}
use Rattle.replay_theorems.specs.Read.{IsRead, AllRead}
use Rattle.replay_theorems.specs.Stops.{Stops}
use Rattle.replay_theorems.proofs.Laws.Turning.{Turned, Turns, over, stops, goes, turns, bad_number}
use Rattle.replay_theorems.proofs.Laws.Reading.{all_asked}

-- ---- a stopped run stays as it is

record Stays (c : Course) (rs : List Record) : Type 0 where
  same : gone c rs ≡ c
  silent : gone_text c rs ≡ []

module _ (c : Course) (o : c.number ≡ 0 → ⊥) where
  stays_turned : (r : Record) → Turned c r c [] []
  stays_turned r = go (turns c r)
    where
      go : Turns c r → Turned c r c [] []
      go (over x t) = t
      go (stops z x t) = absurd (o z)
      go (goes z x t) = absurd (o z)

  stays : (rs : List Record) → Stays c rs
  stays [] = record { same = (gone_none c).0; silent = (gone_none c).1 }
  stays (r ∷ rs) =
      let t = stays_turned r in
      let s = stays rs in
      record {
        same = gone_one c r rs ∙ ap (λ (x : Course). gone x rs) t.leaves ∙ s.same;
        silent =
            text_one c r rs
            ∙ ap (λ (u : List ℕ). u ++ gone_text (turn c r) rs) t.prints
            ∙ ap (λ (x : Course). gone_text x rs) t.leaves
            ∙ s.silent;
      }

-- ---- where it stops

record Splits (c : Course) (rs : List Record) : Type 0 where
  before : List Record
  refused : Record
  rest : List Record
  splits : rs ≡ before ++ (refused ∷ rest)
  none_before : (gone c before).number ≡ 0
  is : gone c rs ≡ stopped (gone c before) (record_number (gone c before).day refused)
  counts : (gone c before).done ≡ c.done + length before
  prints : gone_text c rs ≡ gone_text c before ++ stopped_text (record_number (gone c before).day refused) (gone c before).done

-- at the first
splits_here : (c : Course) (r : Record) (rs : List Record) → c.number ≡ 0 → (record_number c.day r ≡ 0 → ⊥)
    → turn c r ≡ stopped c (record_number c.day r) → turn_text c r ≡ stopped_text (record_number c.day r) c.done → Splits c (r ∷ rs)
splits_here c r rs z o e t =
    let s = stays (stopped c (record_number c.day r)) o rs in
    let at : Course → Course = λ (x : Course). stopped x (record_number x.day r) in
    let none = (gone_none c).0 in
    record {
      before = [];
      refused = r;
      rest = rs;
      splits = refl;
      none_before = ap (λ (x : Course). x.number) none ∙ z;
      is = gone_one c r rs ∙ ap (λ (x : Course). gone x rs) e ∙ s.same ∙ ap at (sym none);
      counts = ap (λ (x : Course). x.done) none ∙ omega arith;
      prints =
          text_one c r rs
          ∙ ap (λ (u : List ℕ). u ++ gone_text (turn c r) rs) t
          ∙ ap (λ (u : List ℕ). stopped_text (record_number c.day r) c.done ++ u) (ap (λ (x : Course). gone_text x rs) e ∙ s.silent)
          ∙ append-nil _
          ∙ ap (λ (x : Course). stopped_text (record_number x.day r) x.done) (sym none)
          ∙ ap (λ (u : List ℕ). u ++ stopped_text (record_number (gone c []).day r) (gone c []).done) (sym (gone_none c).1);
    }

-- later
splits_later : (c : Course) (r : Record) (rs : List Record) → (turn c r).done ≡ suc c.done → Splits (turn c r) rs → Splits c (r ∷ rs)
splits_later c r rs e s =
    let b : List Record = s.before in
    let on : gone (turn c r) b ≡ gone c (r ∷ b) = sym (gone_one c r b) in
    let at : Course → Course = λ (x : Course). stopped x (record_number x.day s.refused) in
    record {
      before = r ∷ b;
      refused = s.refused;
      rest = s.rest;
      splits = ap (λ (l : List Record). r ∷ l) s.splits;
      none_before = ap (λ (x : Course). x.number) (sym on) ∙ s.none_before;
      is = gone_one c r rs ∙ s.is ∙ ap at on;
      counts = ap (λ (x : Course). x.done) (sym on) ∙ s.counts ∙ omega arith;
      prints =
          text_one c r rs
          ∙ ap (λ (u : List ℕ). turn_text c r ++ u) (s.prints ∙ ap (λ (x : Course). gone_text (turn c r) b ++ stopped_text (record_number x.day s.refused) x.done) on)
          ∙ sym (append_assoc (turn_text c r) (gone_text (turn c r) b) _)
          ∙ ap (λ (u : List ℕ). u ++ stopped_text (record_number (gone c (r ∷ b)).day s.refused) (gone c (r ∷ b)).done) (sym (text_one c r b));
    }

-- a turn of a run that is not stopped: refused, or one more is done
data Next (c : Course) (r : Record) : Type 0 where
  refuses : (record_number c.day r ≡ 0 → ⊥) → turn c r ≡ stopped c (record_number c.day r) → turn_text c r ≡ stopped_text (record_number c.day r) c.done → Next c r
  does : (turn c r).number ≡ 0 → (turn c r).done ≡ suc c.done → Next c r

next : (n : ℕ) (c : Course) (r : Record) → c.number ≡ 0 → IsRead n r → Next c r
next n c (good e) z h = go (turns c (good e))
  where
    go : Turns c (good e) → Next c (good e)
    go (over o t) = absurd (o z)
    go (stops x o t) = refuses o t.leaves t.prints
    go (goes x k t) = does (ap (λ (y : Course). y.number) t.leaves) (ap (λ (y : Course). y.done) t.leaves)
next n c (bad k) z h = go (turns c (bad k))
  where
    go : Turns c (bad k) → Next c (bad k)
    go (over o t) = absurd (o z)
    go (stops x o t) = refuses o t.leaves t.prints
    go (goes x w t) = absurd (omega (arith, bad_number c.day k, h))

splits_in : (n : ℕ) (rs : List Record) (c : Course) → AllRead n rs → c.number ≡ 0 → ((gone c rs).number ≡ 0 → ⊥) → Splits c rs
splits_in n [] c h z o = absurd (o (ap (λ (x : Course). x.number) (gone_none c).0 ∙ z))
splits_in n (r ∷ rs) c h z o = go (next n c r z h.0) (λ y. splits_in n rs (turn c r) h.1 y (λ x. o (ap (λ (k : Course). k.number) (gone_one c r rs) ∙ x)))
  where
    go : Next c r → ((turn c r).number ≡ 0 → Splits (turn c r) rs) → Splits c (r ∷ rs)
    go (refuses x e t) later = splits_here c r rs z x e t
    go (does y e) later = splits_later c r rs e (later y)

-- ---- the whole

whole_text : (d : Day) (rs : List Record) → day_text d rs ≡ start_text d ++ (gone_text (begun d) rs ++ end_text (gone (begun d) rs).day)
unfolding day_text
whole_text d rs = refl

pub stops_before : (n : ℕ) (d : Day) (rs : List Record) → AllRead n rs → ((gone (begun d) rs).number ≡ 0 → ⊥) → Stops d rs
stops_before n d rs h o =
    let s = splits_in n rs (begun d) h refl o in
    let b : Course = gone (begun d) s.before in
    let number : record_number b.day s.refused ≡ (gone (begun d) rs).number = ap (λ (x : Course). x.number) (sym s.is) in
    let leaves : (gone (begun d) rs).day ≡ b.day = ap (λ (x : Course). x.day) s.is in
    let count : b.done ≡ length s.before = s.counts ∙ omega arith in
    record {
      before = s.before;
      refused = s.refused;
      rest = s.rest;
      splits = s.splits;
      none_before = s.none_before;
      its_number = number;
      leaves = leaves;
      done = ap (λ (x : Course). x.done) s.is ∙ count;
      before_prints = whole_text d s.before;
      prints =
          whole_text d rs
          ∙ ap (λ (u : List ℕ). start_text d ++ (u ++ end_text (gone (begun d) rs).day)) s.prints
          ∙ ap (λ (x : Day). start_text d ++ ((gone_text (begun d) s.before ++ stopped_text (record_number b.day s.refused) b.done) ++ end_text x)) leaves
          ∙ ap (λ (u : List ℕ). start_text d ++ u) (append_assoc (gone_text (begun d) s.before) _ (end_text b.day))
          ∙ ap (λ (k : ℕ). start_text d ++ (gone_text (begun d) s.before ++ (stopped_text k b.done ++ end_text b.day))) number
          ∙ ap (λ (k : ℕ). start_text d ++ (gone_text (begun d) s.before ++ (stopped_text (gone (begun d) rs).number k ++ end_text b.day))) count;
    }

pub capture_stops : (n : ℕ) (hears : ℕ → ℕ → Bool) (d : Day) (s : List ℕ) → ((gone (begun d) (asked_all hears (records_of n s))).number ≡ 0 → ⊥) → Stops d (asked_all hears (records_of n s))
capture_stops n hears d s o = stops_before n d (asked_all hears (records_of n s)) (all_asked n hears s) o
