use mathlib.Core.Path.{◌≡◌, refl, sym, ◌∙◌}
use mathlib.Core.List.{List}
use Prim.Native.Nat.{ℕ, suc, ◌+◌, ◌-◌, ◌/◌, ◌%◌, ◌^◌, ◌<◌, ◌≤◌}
use native.Mathlib.Nat.{sub_self, div-one, div-div-eq-div-mul, pow-suc}
use native.Mathlib.Omega.{arith}
use lib.ListN.{length, set, length-set}
use Rattle.codec.specs.Octets.{laid}
use Rattle.codec.proofs.Laws.Octets.{laid_none, laid_before}
use Rattle.bench.specs.Text.{digits}
use Rattle.bench.proofs.text.put_digits.Goals as goal

module _ (l out : List ℕ) (at width value rest left : ℕ) (some : 0 < left) (within : left ≤ width) where
  one_less : width - (left - 1) ≡ suc (width - left)
  one_less = omega arith

  lays : at + width ≤ length l → out ≡ laid l (at + left) (digits (width - left) value) → rest ≡ value / 10 ^ (width - left)
      → set out (at + (left - 1)) (48 + rest % 10) ≡ laid l (at + (left - 1)) (digits (width - (left - 1)) value)
  lays room eo er =
      let e : at + left ≡ suc (at + (left - 1)) = omega arith in
      rw (eo, er, one_less, e) (laid_before l (digits (width - left) value) (at + (left - 1)) (48 + value / 10 ^ (width - left) % 10) (omega arith))

  leaves : rest ≡ value / 10 ^ (width - left) → rest / 10 ≡ value / 10 ^ (width - (left - 1))
  leaves er = rw (er, one_less, pow-suc 10 (width - left)) (div-div-eq-div-mul value (10 ^ (width - left)) 10)

pub loop-left-init : goal.loop-left-init
loop-left-init c =
    let a = c.args in
    (omega arith, refl, rw (sub_self a.k) (sym (laid_none a.out.now (a.at + a.k))), rw (sub_self a.k) (sym (div-one a.v)))

pub overflow_sub-left : goal.overflow_sub-left
overflow_sub-left c = omega arith

pub overflow_cast-out : goal.overflow_cast-out
overflow_cast-out c = omega arith

pub overflow_add-out : goal.overflow_add-out
overflow_add-out c = omega arith

pub overflow_add-out-in-loop-left : goal.overflow_add-out-in-loop-left
overflow_add-out-in-loop-left c = omega arith

pub bounds-out-at : goal.bounds-out-at
bounds-out-at c = omega arith

pub loop-left-smaller : goal.loop-left-smaller
loop-left-smaller c = omega arith

pub loop-left-preserved : goal.loop-left-preserved
loop-left-preserved c =
    let l = c.loop-left in
    let a = c.args in
    let t = c.loop-left-test.true in (
      omega arith,
      simp length-set l.invariant.1,
      lays a.out.now l.out a.at a.k a.v l.rest l.left t l.invariant.0 c.requires l.invariant.2 l.invariant.3,
      leaves a.out.now l.out a.at a.k a.v l.rest l.left t l.invariant.0 l.invariant.3,
    )

pub returns : goal.returns
returns c =
    let l = c.loop-left in
    let a = c.args in
    let e : a.at + l.left ≡ a.at = omega arith in
    let f : a.k - l.left ≡ a.k = omega arith in
    l.invariant.2 ∙ rw (e, f)
