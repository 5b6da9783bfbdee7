-- The live set's octets in a record. Assumes nothing.
use mathlib.Core.Path.{◌≡◌, refl, sym, ap, ◌∙◌}
use mathlib.Core.Bool.{Bool, true, false}
use mathlib.Core.List.{List, ◌++◌}
use Prim.Native.Nat.{ℕ, zero, suc, ◌+◌, ◌*◌, ◌<◌, ◌≤◌}
use native.Mathlib.Nat.{add-zero}
use native.Mathlib.Omega.{arith}
use borrow.Author.Tests.{eqb-true}
use lib.ListN.{length, get_or, drop}
use Rattle.codec.specs.Octets.{Octets, octets, number_at}
use Rattle.codec.proofs.Laws.Octets.{field_then}
use Rattle.parts.specs.Choose.{pick}
use Rattle.parts.proofs.Laws.Choose.{pick_and}
use Rattle.parts.specs.declared.live.Live.{Live}
use Rattle.records.specs.Layout.{live_at, sends_at}
use Rattle.records.specs.Fields.{flag_from, flag_number, flag_good, flag_octets, flag_at, live_from, flags_good, live_octets}
use Rattle.record_theorems.proofs.Laws.Goes.{Goes, goes_number}
use Rattle.record_theorems.proofs.Laws.Rows.{row_written, row_item, tab_is}

-- ---- each of them

pub flags_each : (s : List ℕ) (at k : ℕ) → flags_good s at k ≡ true → (i : ℕ) → i < k → flag_good (number_at s (at + i) 1) ≡ true
unfolding flags_good
flags_each s at zero e i h = absurd (omega arith)
flags_each s at (suc k) e zero h = rw (add-zero at) (pick_and e).0
flags_each s at (suc k) e (suc i) h =
    let next : at + suc i ≡ suc at + i = omega arith in
    rw next (flags_each s (suc at) k (pick_and e).1 i (omega arith))

pub flags_all : (s : List ℕ) (at k : ℕ) → ((i : ℕ) → i < k → flag_good (number_at s (at + i) 1) ≡ true) → flags_good s at k ≡ true
unfolding flags_good pick
flags_all s at zero p = refl
flags_all s at (suc k) p =
    let first : flag_good (number_at s at 1) ≡ true = ap (λ (n : ℕ). flag_good (number_at s n 1)) (sym (add-zero at)) ∙ p 0 (omega arith) in
    let later : (i : ℕ) → i < k → flag_good (number_at s (suc at + i) 1) ≡ true =
    λ i h. let next : suc at + i ≡ at + suc i = omega arith in ap (λ (n : ℕ). flag_good (number_at s n 1)) next ∙ p (suc i) (omega arith) in
    rw first (flags_all s (suc at) k later)

flag_back : (on : Bool) → flag_from (flag_number on) ≡ on
flag_back true = refl
flag_back false = refl

flag_good_lem : (on : Bool) → flag_good (flag_number on) ≡ true
flag_good_lem true = refl
flag_good_lem false = refl

flag_fits : (on : Bool) → flag_number on < 256
flag_fits true = omega arith
flag_fits false = omega arith

-- ---- all of them

pub live_written : (s : List ℕ) → Octets s → sends_at ≤ length s → flags_good s live_at 64 ≡ true → Goes s live_at (live_octets (live_from s)) sends_at
live_written s o h good =
    row_written flag_octets s 1 live_at (flag_at s) 64
    (λ i less.
    let e : live_at + i * 1 ≡ live_at + i = omega arith in
    let same : number_at s (live_at + i * 1) 1 ≡ flag_number (flag_at s i) =
    ap (λ (n : ℕ). number_at s n 1) e ∙ sym (eqb-true _ _ (flags_each s live_at 64 good i less)) in
    field_then s (live_at + i * 1) 1 (live_at + suc i * 1) o (omega arith) (omega arith)
    ∙ ap (λ (v : ℕ). octets 1 v ++ drop (live_at + suc i * 1) s) same)

pub record LiveRead (s : List ℕ) (l : Live) : Type 0 where
  pub live_read : live_from s ≡ l
  pub good : flags_good s live_at 64 ≡ true

pub live_reads : (s : List ℕ) (l : Live) (next : ℕ) → length l.on ≡ 64 → Goes s live_at (live_octets l) next → LiveRead s l
live_reads s l next long p =
    let each : (i : ℕ) → i < 64 → number_at s (live_at + i) 1 ≡ flag_number (get_or l.on i false) =
    λ i less.
    let e : live_at + i ≡ live_at + i * 1 = omega arith in
    ap (λ (n : ℕ). number_at s n 1) e
    ∙ goes_number s 1 (flag_number (get_or l.on i false)) (live_at + i * 1) (live_at + suc i * 1) (flag_fits (get_or l.on i false))
    (row_item flag_octets s 1 (λ b. refl) l.on false live_at next p i (omega arith)) in
    let all : Rattle.records.specs.Tables.tab (flag_at s) 64 ≡ l.on =
    tab_is (flag_at s) l.on false 64 long (λ i less. ap flag_from (each i less) ∙ flag_back (get_or l.on i false)) in
    record {
      live_read = λ i. record { on = all i };
      good = flags_all s live_at 64 (λ i less. ap flag_good (each i less) ∙ flag_good_lem (get_or l.on i false));
    }
