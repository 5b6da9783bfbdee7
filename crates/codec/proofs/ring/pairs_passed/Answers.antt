use mathlib.Core.Path.{◌≡◌, sym, ap, ◌∙◌}
use mathlib.Core.List.{List}
use Prim.Native.Nat.{ℕ, ◌+◌, ◌<◌}
use native.Mathlib.Nat.{zero-add}
use native.Mathlib.Omega.{arith}
use lib.ListN.{length, drop, get_or}
use Rattle.codec.specs.Ring.{position}
use Rattle.codec.proofs.Laws.Position.{position_here, position_further, member_at_lem}
use Rattle.codec.proofs.ring.pairs_passed.Goals as goal

-- two members are passed
pair_further : (ms : List ℕ) (a i : ℕ) → i + 1 < length ms → (get_or ms i 0 ≡ a → ⊥) → (get_or ms (i + 1) 0 ≡ a → ⊥) → i + position (drop i ms) a ≡ i + 2 + position (drop (i + 2) ms) a
pair_further ms a i more n m =
    let two : i + 1 + 1 ≡ i + 2 = omega arith in
    position_further ms a i (omega arith) n ∙ position_further ms a (i + 1) more m ∙ ap (λ (k : ℕ). k + position (drop k ms) a) two

pub loop-i-init : goal.loop-i-init
loop-i-init c = (omega arith, sym (zero-add (position c.args.members.now c.args.address)))

pub overflow_sub-members : goal.overflow_sub-members
overflow_sub-members c = omega arith

pub offset_bounds-members-i : goal.offset_bounds-members-i
offset_bounds-members-i c = omega arith

pub bounds-members-i : goal.bounds-members-i
bounds-members-i c = omega arith

pub overflow_add-i : goal.overflow_add-i
overflow_add-i c = omega arith

pub offset_bounds-members-i-in-loop-i : goal.offset_bounds-members-i-in-loop-i
offset_bounds-members-i-in-loop-i c = omega arith

pub bounds-members-i-in-loop-i : goal.bounds-members-i-in-loop-i
bounds-members-i-in-loop-i c = omega arith

pub overflow_add-i-in-loop-i : goal.overflow_add-i-in-loop-i
overflow_add-i-in-loop-i c = omega arith

pub loop-i-smaller : goal.loop-i-smaller
loop-i-smaller c = omega arith

pub loop-i-preserved : goal.loop-i-preserved
loop-i-preserved c =
    let l = c.loop-i in
    let a = c.args in
    (omega arith, l.invariant.1 ∙ pair_further a.members.now a.address l.i (omega arith) c.if-members-i.false c.if-members-i-2.false)

pub returns-after-loop-i : goal.returns-after-loop-i
returns-after-loop-i c =
    let l = c.loop-i in
    (l.invariant.0, l.invariant.1, (λ more. let no : ⊥ = omega arith in absurd no))

pub returns-then-members-i : goal.returns-then-members-i
returns-then-members-i c =
    let l = c.loop-i in
    let a = c.args in
    (l.invariant.0, l.invariant.1, (λ more. member_at_lem a.members.now a.address l.i (l.invariant.1 ∙ position_here a.members.now a.address l.i (omega arith) c.if-members-i.true) (omega arith)))

pub returns-then-members-i-2 : goal.returns-then-members-i-2
returns-then-members-i-2 c =
    let l = c.loop-i in
    let a = c.args in
    let first = position_further a.members.now a.address l.i (omega arith) c.if-members-i.false in
    (l.invariant.0, l.invariant.1, (λ more. member_at_lem a.members.now a.address (l.i + 1) (l.invariant.1 ∙ first ∙ position_here a.members.now a.address (l.i + 1) more c.if-members-i-2.true) more))
