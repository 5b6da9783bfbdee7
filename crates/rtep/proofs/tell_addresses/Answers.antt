use mathlib.Core.Path.{◌≡◌, refl, sym, ap, ◌∙◌}
use Prim.Native.Nat.{ℕ}
use native.Mathlib.Omega.{arith}
use lib.ListN.{length, take, length-set}
use lib.Seq.{take-length}
use Rattle.codec.specs.Octets.{laid}
use Rattle.codec.proofs.Laws.Octets.{laid_none, laid_more}
use Rattle.rtep.proofs.tell_addresses.Goals as goal

pub loop-i-init : goal.loop-i-init
loop-i-init c = (omega arith, refl, sym (laid_none c.args.told.now 2))

pub offset_bounds-members-i : goal.offset_bounds-members-i
offset_bounds-members-i c = omega arith

pub bounds-members-i : goal.bounds-members-i
bounds-members-i c = omega arith

pub overflow_add-told : goal.overflow_add-told
overflow_add-told c = omega arith

pub offset_bounds-told-i : goal.offset_bounds-told-i
offset_bounds-told-i c = omega arith

pub bounds-told-i : goal.bounds-told-i
bounds-told-i c = omega arith

pub overflow_add-i : goal.overflow_add-i
overflow_add-i c = omega arith

pub loop-i-smaller : goal.loop-i-smaller
loop-i-smaller c = omega arith

pub loop-i-preserved : goal.loop-i-preserved
loop-i-preserved c =
    let l = c.loop-i in
    let a = c.args in (
      omega arith,
      simp length-set l.invariant.1,
      laid_more a.told.now l.told a.members.now 2 l.i (omega arith) (omega arith) l.invariant.2,
    )

pub returns : goal.returns
returns c =
    let l = c.loop-i in
    let a = c.args in
    let e : l.i ≡ length a.members.now = omega arith in
    l.invariant.2 ∙ ap (λ (k : ℕ). laid a.told.now 2 (take k a.members.now)) e ∙ ap (laid a.told.now 2) (take-length a.members.now)
