use mathlib.Core.Path.{◌≡◌, ap, ◌∙◌}
use mathlib.Core.List.{List, ◌++◌}
use Prim.Native.Nat.{ℕ, ◌<◌}
use native.Mathlib.Omega.{arith}
use lib.ListN.{drop, replicate}
use Rattle.parts.specs.Messages.{blank}
use Rattle.parts.specs.declared.list.Message.{Message}
use Rattle.records.specs.Tables.{tab}
use Rattle.records.specs.Fields.{item_at}
use Rattle.records.proofs.Laws.Tables.{tab_none, tab_more}
use Rattle.records.proofs.lists.first_items.Goals as goal

abbrev blanks : List Message
blanks = replicate 16 blank

pub loop-i-init : goal.loop-i-init
loop-i-init c = (omega arith, tab_none (item_at c.args.s.now c.args.at) blanks)

pub overflow_mul-i : goal.overflow_mul-i
overflow_mul-i c = omega arith

pub overflow_add-at : goal.overflow_add-at
overflow_add-at c = omega arith

pub message_at-requires : goal.message_at-requires
message_at-requires c = omega arith

pub offset_bounds-items-i : goal.offset_bounds-items-i
offset_bounds-items-i c = omega arith

pub bounds-items-i : goal.bounds-items-i
bounds-items-i c = omega arith

pub overflow_add-i : goal.overflow_add-i
overflow_add-i c = omega arith

pub loop-i-smaller : goal.loop-i-smaller
loop-i-smaller c = omega arith

pub loop-i-preserved : goal.loop-i-preserved
loop-i-preserved c =
    let l = c.loop-i in
    let a = c.args in
    let less : l.i < 16 = omega arith in
    (omega arith, tab_more (item_at a.s.now a.at) blanks l.items c.message_at.result l.i blank less l.invariant.1 c.message_at.ensures)

pub returns : goal.returns
returns c =
    let l = c.loop-i in
    let a = c.args in
    let end : l.i ≡ a.k = omega arith in
    l.invariant.1 ∙ ap (λ (n : ℕ). tab (item_at a.s.now a.at) n ++ drop n blanks) end
