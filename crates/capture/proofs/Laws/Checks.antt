-- Laws of a record's checks: what a record is that passes them. Assumes nothing.
use mathlib.Core.Path.{◌≡◌, refl, sym}
use mathlib.Core.Bool.{Bool, true, false, not, ◌&&◌, ◌||◌, true≢false}
use Prim.Native.Nat.{ℕ, ◌<◌, ◌≤◌}
use native.Mathlib.Omega.{arith}
use borrow.Author.Tests.{ltb-false, leb-false, eqb-true, not-false, lt-ltb}
use lib.Dec.{eqb}
use Rattle.codec.proofs.Laws.Order.{Apart, none_holds}
use Rattle.capture.specs.Record.{record_tests, record_number}
use Rattle.capture.specs.declared.record.Fields.{Fields}

either_false : (a b : Bool) → (a || b) ≡ false → (a ≡ false) × (b ≡ false)
either_false true b e = absurd (true≢false e)
either_false false b e = (refl, e)

second_false : (a b : Bool) → (a && b) ≡ false → a ≡ true → b ≡ false
second_false true b e h = e
second_false false b e h = absurd (true≢false (sym h))

zero_of : (v : ℕ) → not (eqb v 0) ≡ false → v ≡ 0
zero_of v e = eqb-true v 0 (not-false _ e)

-- what the fields of a record are that passes
pub record Passes (n : ℕ) (f : Fields) : Type 0 where
  pub kind_is : f.kind ≤ 4
  pub station_in : f.station < n
  pub destination_in : f.destination < n
  pub station_unused : f.kind < 3 → f.station ≡ 0
  pub rest_unused : f.kind < 4 → (f.destination ≡ 0) × (f.priority ≡ 0) × (f.channel ≡ 0) × (f.length ≡ 0)
  pub zero_bits : f.zeros ≡ 0

apart : (n : ℕ) (f : Fields) → Apart 0 (record_tests n f)
apart n f = ((λ z. omega arith), ((λ z. omega arith), ((λ z. omega arith), ((λ z. omega arith), tt))))

pub passes : (n : ℕ) (f : Fields) → record_number n f ≡ 0 → Passes n f
unfolding record_number
passes n f e =
    let h = none_holds 0 (record_tests n f) (apart n f) e in
    let inside = either_false _ _ h.1.0 in
    let unused = either_false _ _ h.1.1.0 in
    record {
      kind_is = ltb-false _ _ h.0;
      station_in = leb-false _ _ inside.0;
      destination_in = leb-false _ _ inside.1;
      station_unused = λ k. zero_of _ (second_false _ _ unused.0 (lt-ltb _ _ k));
      rest_unused = λ k.
          let a = either_false _ _ (second_false _ _ unused.1 (lt-ltb _ _ k)) in
          let b = either_false _ _ a.1 in
          let c = either_false _ _ b.1 in
          (zero_of _ a.0, zero_of _ b.0, zero_of _ c.0, zero_of _ c.1);
      zero_bits = zero_of _ h.1.1.1.0;
    }
