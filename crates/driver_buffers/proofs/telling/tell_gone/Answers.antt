use mathlib.Core.Path.{◌≡◌, refl, sym, ap, ◌∙◌}
use Prim.Native.Nat.{◌+◌, ◌*◌, ◌<◌, ◌≤◌}
use native.Mathlib.Omega.{arith}
use borrow.Author.Rules.{rules}
use lib.ListN.{length}
use Rattle.codec.specs.Octets.{laid}
use Rattle.codec.proofs.Laws.Octets.{laid_none}
use Rattle.parts.specs.Messages.{all, used, blank}
use Rattle.parts.specs.declared.list.Message.{Message}
use Rattle.parts.proofs.Laws.Messages.{length_mapped, used_most, length_all, message_at, whole_to}
use Rattle.driver_buffers.specs.Telling.{message_told}
use Rattle.records.proofs.Laws.Tables.{joined_none, joined_more}
use Rattle.driver_buffers.proofs.telling.tell_gone.Goals as goal

pub loop-i-init : goal.loop-i-init
loop-i-init c =
    let a = c.args in
    (c.count-n.ensures, omega arith, refl, sym (ap (laid a.told.now 4) (joined_none (message_told a.ring.now) 5 (λ m. refl) (all a.gone)) ∙ laid_none a.told.now 4))

pub offset_bounds-gone-i : goal.offset_bounds-gone-i
offset_bounds-gone-i c = omega (arith, used_most c.args.gone)

pub bounds-gone-i : goal.bounds-gone-i
bounds-gone-i c = omega (arith, used_most c.args.gone)

pub overflow_mul-i : goal.overflow_mul-i
overflow_mul-i c = omega (arith, used_most c.args.gone)

pub overflow_add-i : goal.overflow_add-i
overflow_add-i c = omega (arith, used_most c.args.gone)

pub tell_message-requires : goal.tell_message-requires
tell_message-requires c = omega (arith, used_most c.args.gone, c.requires)

pub overflow_add-i-in-loop-i : goal.overflow_add-i-in-loop-i
overflow_add-i-in-loop-i c = omega (arith, used_most c.args.gone)

pub loop-i-smaller : goal.loop-i-smaller
loop-i-smaller c = omega arith

pub loop-i-preserved : goal.loop-i-preserved
loop-i-preserved c =
    let l = c.loop-i in
    let a = c.args in
    let room : 84 ≤ length a.told.now = c.requires in
    let h : length a.gone.items ≡ 16 = search length_mapped in
    let in_list : l.i < used a.gone = omega arith in
    let inside : l.i < length (all a.gone) = omega (arith, length_all a.gone h) in
    let f = message_told a.ring.now in
    (l.invariant.0, omega arith, search rules, joined_more f 5 (λ m. refl) a.told.now l.told _ (all a.gone) 4 (4 + l.i * 5) l.i blank refl inside (omega (arith, used_most a.gone, room)) l.invariant.3 (c.tell_message.ensures ∙ ap (λ (m : Message). laid l.told (4 + l.i * 5) (message_told a.ring.now m)) (sym (message_at a.gone h l.i in_list))))

pub returns : goal.returns
returns c =
    let l = c.loop-i in
    let a = c.args in
    let h : length a.gone.items ≡ 16 = search length_mapped in
    let past : used a.gone ≤ l.i = omega arith in
    l.invariant.3 ∙ rw (whole_to a.gone h l.i past)
