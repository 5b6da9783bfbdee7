use mathlib.Core.Path.{◌≡◌, refl, sym, ap, ◌∙◌}
use Prim.Native.Nat.{ℕ, ◌+◌, ◌*◌, ◌^◌, ◌<◌, ◌≤◌, zero-le, suc-le-suc}
use native.Mathlib.Nat.{pow-suc, pow-le-pow_right, le_trans}
use native.Mathlib.Numerals.{add-one}
use native.Mathlib.Omega.{arith}
use lib.Arith.{digits_lt}
use lib.ListN.{get_or}
use Rattle.codec.proofs.Laws.Octets.{number_more}
use Rattle.codec.proofs.octets.get.Goals as goal
use Rattle.codec.proofs.octets.get.Goals.{After-shared_slice_known-1, In-loop-i}

-- fewer than 8 octets leave room for one more
room : (i width value : ℕ) → i < width → width ≤ 8 → value < 256 ^ i → value < 256 ^ 7
room i width value more most small = le_trans small (pow-le-pow_right {n = 256} (suc-le-suc zero-le) {i = i} {j = 7} (omega arith))

has_room : (c : In-loop-i) → c.loop-i.value < 256 ^ 7
has_room c = room c.loop-i.i c.args.width c.loop-i.value c.loop-i-test.true c.requires.1 c.loop-i.invariant.2

small_more : (i value b : ℕ) → value < 256 ^ i → b < 256 → value * 256 + b < 256 ^ (i + 1)
small_more i value b h hb = rw (add-one i, pow-suc 256 i) (digits_lt h hb)

pub loop-i-init : goal.loop-i-init
loop-i-init c = (omega arith, refl, suc-le-suc zero-le)

pub overflow_mul-value : goal.overflow_mul-value
overflow_mul-value c = omega (arith, has_room c)

pub overflow_add-value : goal.overflow_add-value
overflow_add-value c = omega arith

pub bounds-s-at : goal.bounds-s-at
bounds-s-at c = omega arith

-- the octet that is read
octet : (c : After-shared_slice_known-1) → get_or c.args.s.now (c.args.at + c.loop-i.i) 0 < 256
octet c = omega (arith, c.type_inv.s (c.args.at + c.loop-i.i))

pub overflow_add-value-in-loop-i : goal.overflow_add-value-in-loop-i
overflow_add-value-in-loop-i c = omega (arith, octet c, has_room (goal.at.overflow_add-value-in-loop-i c).In-loop-i)

pub overflow_add-i : goal.overflow_add-i
overflow_add-i c = omega arith

pub loop-i-smaller : goal.loop-i-smaller
loop-i-smaller c = omega arith

pub loop-i-preserved : goal.loop-i-preserved
loop-i-preserved c =
    let l = c.loop-i in
    let a = c.args in (
      omega arith,
      ap (λ (n : ℕ). n * 256 + get_or a.s.now (a.at + l.i) 0) l.invariant.1 ∙ sym (number_more a.s.now a.at l.i (omega arith)),
      small_more l.i l.value (get_or a.s.now (a.at + l.i) 0) l.invariant.2 (octet c),
    )

pub returns : goal.returns
returns c =
    let l = c.loop-i in
    let e : l.i ≡ c.args.width = omega arith in
    (rw e at l.invariant.1, rw e at l.invariant.2)
