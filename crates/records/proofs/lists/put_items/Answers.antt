use mathlib.Core.Path.{◌≡◌, refl, sym, ap, ◌∙◌}
use Prim.Native.Nat.{◌+◌, ◌*◌}
use native.Mathlib.Omega.{arith}
use lib.ListN.{length}
use lib.Seq.{take-length}
use Rattle.codec.specs.Octets.{laid}
use Rattle.codec.proofs.Laws.Octets.{laid_none}
use Rattle.parts.specs.Messages.{blank}
use Rattle.parts.proofs.Laws.Messages.{length_mapped}
use Rattle.records.specs.Layout.{message_length}
use Rattle.records.specs.Fields.{message_octets}
use Rattle.records.proofs.Laws.Tables.{joined_none, joined_more}
use Rattle.records.proofs.lists.put_items.Goals as goal

pub loop-i-init : goal.loop-i-init
loop-i-init c =
    let a = c.args in
    (omega arith, refl, sym (ap (laid a.out.now a.at) (joined_none message_octets message_length (λ m. refl) a.items) ∙ laid_none a.out.now a.at))

pub offset_bounds-items-i : goal.offset_bounds-items-i
offset_bounds-items-i c = omega arith

pub bounds-items-i : goal.bounds-items-i
bounds-items-i c = omega arith

pub overflow_mul-i : goal.overflow_mul-i
overflow_mul-i c = omega arith

pub overflow_add-at : goal.overflow_add-at
overflow_add-at c = omega arith

pub put_message-requires : goal.put_message-requires
put_message-requires c = omega arith

pub overflow_add-i : goal.overflow_add-i
overflow_add-i c = omega arith

pub loop-i-smaller : goal.loop-i-smaller
loop-i-smaller c = omega arith

pub loop-i-preserved : goal.loop-i-preserved
loop-i-preserved c =
    let l = c.loop-i in
    let a = c.args in
    let h : length a.items ≡ 16 = search length_mapped in
    (omega arith, c.put_message.auto.out ∙ l.invariant.1, joined_more message_octets message_length (λ m. refl) a.out.now l.out c.put_message.new.out a.items a.at (a.at + l.i * message_length) l.i blank refl (omega arith) (omega arith) l.invariant.2 c.put_message.ensures)

pub returns : goal.returns
returns c =
    let l = c.loop-i in
    let a = c.args in
    let h : length a.items ≡ 16 = search length_mapped in
    let e : l.i ≡ length a.items = omega arith in
    l.invariant.2 ∙ rw (e, take-length a.items)
