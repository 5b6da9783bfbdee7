use mathlib.Core.Path.{◌≡◌, refl, sym, ap, ◌∙◌}
use Prim.Native.Nat.{ℕ, ◌+◌, ◌*◌, ◌≤◌}
use native.Mathlib.Omega.{arith}
use lib.ListN.{length, set, length-set}
use Rattle.codec.specs.Bits.{bits}
use Rattle.codec.specs.Ring.{form, addresses_of}
use Rattle.codec.proofs.Laws.Octets.{laid_none}
use Rattle.codec.proofs.Laws.Ring.{stride_least, stride_most, octets_step, octets_most, member_within, addresses_more_laid}
use Rattle.codec.proofs.ring.addresses_by.Goals as goal
use Rattle.codec.proofs.ring.addresses_by.Goals.{In-loop-i}

pub loop-i-init : goal.loop-i-init
unfolding addresses_of
loop-i-init c = (omega arith, omega arith, refl, sym (laid_none c.args.addresses.now 0))

-- the member's stride lies within the file
within : (c : In-loop-i) → c.loop-i.at + 6 ≤ length c.args.file.now
within c =
    let a = c.args in
    let l = c.loop-i in
    let w = member_within (form a.file.now) l.i a.n c.loop-i-test.true in
    omega (arith, w, stride_least (form a.file.now), l.invariant.1, c.requires.3)

-- and below 450
bounded : (c : In-loop-i) → c.loop-i.at + 7 ≤ 457
bounded c =
    let a = c.args in
    let l = c.loop-i in
    omega (arith, octets_most (form a.file.now) l.i (omega (arith, l.invariant.0, c.requires.0)), l.invariant.1)

pub overflow_mul-at : goal.overflow_mul-at
overflow_mul-at c = omega (arith, within c, bounded c)

pub address_from-requires : goal.address_from-requires
address_from-requires c = omega (arith, within c, bounded c)

pub offset_bounds-addresses-i : goal.offset_bounds-addresses-i
offset_bounds-addresses-i c = omega arith

pub bounds-addresses-i : goal.bounds-addresses-i
bounds-addresses-i c = omega arith

pub overflow_add-at : goal.overflow_add-at
overflow_add-at c =
    omega (arith, bounded (goal.at.overflow_add-at c).In-loop-i, stride_most (form c.args.file.now), c.requires.2)

pub overflow_add-i : goal.overflow_add-i
overflow_add-i c = omega arith

pub loop-i-smaller : goal.loop-i-smaller
loop-i-smaller c = omega arith

pub loop-i-preserved : goal.loop-i-preserved
loop-i-preserved c =
    let l = c.loop-i in
    let a = c.args in (
      omega arith,
      rw (l.invariant.1, c.requires.2) (sym (octets_step (form a.file.now) l.i)),
      simp length-set l.invariant.2,
      ap (set l.addresses l.i) (c.address_from.ensures.0 ∙ ap (λ (k : ℕ). bits a.file.now (k * 8) 48) l.invariant.1)
          ∙ addresses_more_laid a.file.now a.addresses.now l.addresses l.i (omega arith) l.invariant.3,
    )

pub returns : goal.returns
returns c =
    let l = c.loop-i in
    let e : l.i ≡ c.args.n = omega arith in
    rw e at l.invariant.3
