use mathlib.Core.Path.{◌≡◌, refl}
use Prim.Native.Nat.{◌<◌}
use native.Mathlib.Omega.{arith}
use lib.ListN.{length}
use Rattle.parts.proofs.Laws.Messages.{length_mapped}
use Rattle.day.specs.Wire.{flying_of}
use Rattle.day.proofs.Laws.Lined.{lined_none, lined_room, lined_more, lined_all}
use Rattle.day.proofs.Laws.Wire.{flying_most, flying_at}
use borrow.Author.Rules.{rules}
use Rattle.day.proofs.text.put_frames.Goals as goal

pub loop-i-init : goal.loop-i-init
loop-i-init c =
    let a = c.args in (omega arith, c.count-n.ensures, refl, lined_none (flying_of a.w) a.out.now a.at)

pub offset_bounds-w-i : goal.offset_bounds-w-i
offset_bounds-w-i c =
    let a = c.args in let h : length a.w.items ≡ 64 = search length_mapped in omega (arith, flying_most a.w h)

pub bounds-w-i : goal.bounds-w-i
bounds-w-i c =
    let a = c.args in let h : length a.w.items ≡ 64 = search length_mapped in omega (arith, flying_most a.w h)

pub put_flying-end-requires : goal.put_flying-end-requires
put_flying-end-requires c =
    let a = c.args in
    let l = c.loop-i in
    let h : length a.w.items ≡ 64 = search length_mapped in
    lined_room (flying_of a.w) a.out.now l.out a.at l.end l.i c.requires l.invariant.2 (omega (arith, flying_most a.w h)) l.invariant.3

pub overflow_add-i : goal.overflow_add-i
overflow_add-i c = omega arith

pub loop-i-smaller : goal.loop-i-smaller
loop-i-smaller c = omega arith

pub loop-i-preserved : goal.loop-i-preserved
loop-i-preserved c =
    let a = c.args in
    let l = c.loop-i in
    let h : length a.w.items ≡ 64 = search length_mapped in
    let inside : l.i < length (flying_of a.w) = omega arith in (
      omega arith,
      l.invariant.1,
      search rules,
      lined_more (flying_of a.w) a.out.now l.out _ a.at l.end _ l.i _ _ c.requires (omega (arith, flying_most a.w h)) inside (flying_at a.w h l.i _ inside) l.invariant.3 c.put_flying-end.ensures,
    )

pub returns : goal.returns
returns c =
    let a = c.args in
    let l = c.loop-i in
    lined_all (flying_of a.w) a.out.now l.out a.at l.end l.i (omega arith) l.invariant.3
