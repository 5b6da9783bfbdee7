use mathlib.Core.Path.{◌≡◌, refl, sym, ◌∙◌}
use mathlib.Core.List.{List}
use Prim.Native.Nat.{ℕ, suc, ◌+◌, ◌-◌, ◌<◌}
use native.Mathlib.Numerals.{add-one}
use native.Mathlib.Omega.{arith}
use borrow.Author.Tests.{eq-eqb, ne_eqb}
use lib.ListN.{get_or}
use Rattle.codec.specs.Octets.{first_nonzero}
use Rattle.codec.proofs.octets.nonzero_one_by_one.Goals as goal

module _ (s : List ℕ) (i end : ℕ) (more : i < end) where
  one_left : end - i ≡ suc (end - (i + 1))
  one_left = omega arith

  here : (get_or s i 0 ≡ 0 → ⊥) → first_nonzero s i (end - i) ≡ i
  here n = rw (one_left, ne_eqb (get_or s i 0) 0 n)

  further : get_or s i 0 ≡ 0 → first_nonzero s i (end - i) ≡ first_nonzero s (i + 1) (end - (i + 1))
  further z = rw (one_left, eq-eqb (get_or s i 0) 0 z, add-one i)

pub loop-i-init : goal.loop-i-init
loop-i-init c = (omega arith, refl)

pub bounds-s-i : goal.bounds-s-i
bounds-s-i c = omega arith

pub overflow_add-i : goal.overflow_add-i
overflow_add-i c = omega arith

pub loop-i-smaller : goal.loop-i-smaller
loop-i-smaller c = omega arith

pub loop-i-preserved : goal.loop-i-preserved
loop-i-preserved c =
    let a = c.args in
    (omega arith, c.loop-i.invariant.1 ∙ further a.s.now c.loop-i.i a.end c.loop-i-test.true c.if-s-i-ne0.false)

pub returns-after-loop-i : goal.returns-after-loop-i
returns-after-loop-i c =
    let l = c.loop-i in
    let a = c.args in
    let e : a.end - l.i ≡ 0 = omega arith in
    sym (l.invariant.1 ∙ rw e)

pub returns-then-s-i-ne0 : goal.returns-then-s-i-ne0
returns-then-s-i-ne0 c =
    let a = c.args in
    sym (c.loop-i.invariant.1 ∙ here a.s.now c.loop-i.i a.end c.loop-i-test.true c.if-s-i-ne0.true)
