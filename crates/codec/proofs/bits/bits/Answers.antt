use mathlib.Core.Path.{◌≡◌, refl, sym, ap, ◌∙◌}
use Prim.Native.Nat.{ℕ, ◌+◌, ◌*◌, ◌^◌, ◌<◌}
use native.Mathlib.Nat.{le_trans}
use native.Mathlib.Numerals.{add-one}
use native.Mathlib.Omega.{arith}
use lib.Pow.{pow_mono}
use Rattle.codec.specs.Bits.{bit, bits}
use Rattle.codec.proofs.Laws.Bits.{bits_below}
use Rattle.codec.proofs.bits.bits.Goals as goal
use Rattle.codec.proofs.bits.bits.Goals.{In-loop-i}

-- fewer than 64 bits leave room for one more
has_room : (c : In-loop-i) → c.loop-i.value < 2 ^ 63
has_room c =
    let l = c.loop-i in
    let a = c.args in
    le_trans (rw l.invariant.1 (bits_below a.s.now a.at l.i)) (pow_mono {i = l.i} {j = 63} (omega (arith, c.loop-i-test.true, c.requires.2)))

pub loop-i-init : goal.loop-i-init
unfolding bits
loop-i-init c = (omega arith, refl)

pub overflow_add-position : goal.overflow_add-position
overflow_add-position c = omega arith

pub bounds-s-position : goal.bounds-s-position
bounds-s-position c = omega arith

pub overflow_sub-shift : goal.overflow_sub-shift
overflow_sub-shift c = omega arith

pub overflow_mul-value : goal.overflow_mul-value
overflow_mul-value c = omega (arith, has_room (goal.at.overflow_mul-value c).In-loop-i)

pub overflow_cast-value : goal.overflow_cast-value
overflow_cast-value c = omega arith

pub overflow_shr-value : goal.overflow_shr-value
overflow_shr-value c = omega arith

pub overflow_cast-value-in-loop-i : goal.overflow_cast-value-in-loop-i
overflow_cast-value-in-loop-i c = omega arith

pub overflow_add-value : goal.overflow_add-value
overflow_add-value c = omega (arith, has_room (goal.at.overflow_add-value c).In-loop-i)

pub overflow_add-i : goal.overflow_add-i
overflow_add-i c = omega arith

pub loop-i-smaller : goal.loop-i-smaller
loop-i-smaller c = omega arith

pub loop-i-preserved : goal.loop-i-preserved
unfolding bits
loop-i-preserved c =
    let l = c.loop-i in
    let a = c.args in
    (omega arith, ap (λ (n : ℕ). n * 2 + bit a.s.now (a.at + l.i)) l.invariant.1 ∙ ap (bits a.s.now a.at) (sym (add-one l.i)))

pub returns : goal.returns
returns c =
    let l = c.loop-i in
    let e : l.i ≡ c.args.width = omega arith in
    let r : l.value ≡ bits c.args.s.now c.args.at c.args.width = rw e at l.invariant.1 in
    (r, rw r (bits_below _ _ _))
