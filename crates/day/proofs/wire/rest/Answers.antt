use mathlib.Core.Path.{◌≡◌, ap, ◌∙◌}
use Prim.Native.Nat.{ℕ, ◌-◌, ◌<◌}
use native.Mathlib.Omega.{arith}
use lib.ListN.{length, take, length-set}
use Rattle.parts.proofs.Laws.Messages.{length_mapped}
use Rattle.day.specs.Wire.{flying_of}
use Rattle.day.proofs.Laws.Wire.{shift_first, shift_turn, shift_done, flying_most, flying_at}
use Rattle.day.proofs.wire.rest.Goals as goal

pub loop-i-init : goal.loop-i-init
loop-i-init c =
    let a = c.args in let h : length a.w.items ≡ 64 = search length_mapped in (omega arith, omega arith, c.count-n.ensures, h, shift_first (flying_of a.w) a.w.items)

pub offset_bounds-w-i : goal.offset_bounds-w-i
offset_bounds-w-i c =
    let a = c.args in let h : length a.w.items ≡ 64 = search length_mapped in omega (arith, flying_most a.w h)

pub bounds-w-i : goal.bounds-w-i
bounds-w-i c =
    let a = c.args in let h : length a.w.items ≡ 64 = search length_mapped in omega (arith, flying_most a.w h)

pub overflow_sub-items : goal.overflow_sub-items
overflow_sub-items c =
    omega arith

pub offset_bounds-items-i : goal.offset_bounds-items-i
offset_bounds-items-i c =
    let a = c.args in let h : length a.w.items ≡ 64 = search length_mapped in omega (arith, flying_most a.w h)

pub bounds-items-i : goal.bounds-items-i
bounds-items-i c =
    let a = c.args in let h : length a.w.items ≡ 64 = search length_mapped in omega (arith, flying_most a.w h)

pub overflow_add-i : goal.overflow_add-i
overflow_add-i c =
    omega arith

pub loop-i-smaller : goal.loop-i-smaller
loop-i-smaller c =
    omega arith

pub loop-i-preserved : goal.loop-i-preserved
loop-i-preserved c =
    let a = c.args in let h : length a.w.items ≡ 64 = search length_mapped in let l = c.loop-i in
    let inside : l.i < length (flying_of a.w) = omega arith in (
      omega arith,
      omega arith,
      l.invariant.2,
      length-set l.items (l.i - 1) _ ∙ l.invariant.3,
      shift_turn (flying_of a.w) l.items l.i _ _ l.invariant.0 inside (omega (arith, flying_most a.w h)) l.invariant.4 (flying_at a.w h l.i _ inside),
    )

pub returns : goal.returns
unfolding flying_of
returns c =
    let a = c.args in
    let l = c.loop-i in
    ap (λ (k : ℕ). take k l.items) c.less-count.ensures ∙ shift_done (flying_of a.w) l.items l.i _ l.invariant.0 l.invariant.2 (omega arith) l.invariant.1 l.invariant.4
