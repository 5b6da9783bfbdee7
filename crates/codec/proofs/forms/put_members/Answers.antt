use mathlib.Core.Path.{◌≡◌, refl, sym, ap, ◌∙◌}
use Prim.Native.Nat.{ℕ, ◌+◌}
use mathlib.Core.List.{List}
use native.Mathlib.Nat.{le_antisymm}
use native.Mathlib.Numerals.{add-one}
use native.Mathlib.Omega.{arith}
use lib.ListN.{length, take, get_or}
use lib.Seq.{take-length}
use Rattle.codec.specs.Octets.{laid}
use Rattle.codec.specs.Ring.{file_octets, channels_of, member_octets, members_octets}
use Rattle.codec.proofs.Laws.Octets.{laid_none}
use Rattle.codec.proofs.Laws.Ring.{octets_step}
use Rattle.codec.proofs.Laws.Members.{eight_fit, step_fits, room_for, member_read, member_kept, member_more}
use Rattle.codec.proofs.forms.put_members.Goals as goal

pub loop-i-init : goal.loop-i-init
unfolding members_octets channels_of
loop-i-init c = (omega arith, omega arith, refl, sym (laid_none _ 2))

pub offset_bounds-addresses-i : goal.offset_bounds-addresses-i
offset_bounds-addresses-i c =
    let l = c.loop-i in
    record { fits = eight_fit l.i (length c.args.addresses.now) c.loop-i-test.true c.requires.1 }

pub bounds-addresses-i : goal.bounds-addresses-i
bounds-addresses-i c = c.loop-i-test.true

pub channels_at-requires : goal.channels_at-requires
channels_at-requires c =
    member_read c.args.file.now c.args.addresses.now c.loop-i.i c.loop-i-test.true c.requires.1 c.requires.2

pub put_member-requires : goal.put_member-requires
put_member-requires c =
    let l = c.loop-i in
    room_for c.args.asked l.i (length c.args.addresses.now) l.at c.args.out.now l.out c.loop-i-test.true c.requires.1 l.invariant.1 l.invariant.2 c.requires.0

pub overflow_add-at : goal.overflow_add-at
overflow_add-at c =
    let l = c.loop-i in
    record { fits = step_fits c.args.asked l.i (length c.args.addresses.now) l.at c.stride-step.result c.loop-i-test.true c.requires.1 l.invariant.1 c.stride-step.ensures }

pub overflow_add-i : goal.overflow_add-i
overflow_add-i c = omega arith

pub loop-i-smaller : goal.loop-i-smaller
loop-i-smaller c = omega arith

pub loop-i-preserved : goal.loop-i-preserved
loop-i-preserved c =
    let l = c.loop-i in
    let a = c.args in
    let q = c.put_member.ensures in
    let room = room_for a.asked l.i (length a.addresses.now) l.at a.out.now l.out c.loop-i-test.true c.requires.1 l.invariant.1 l.invariant.2 c.requires.0 in (
      rw (add-one l.i) c.loop-i-test.true,
      ap (λ (x : ℕ). x + c.stride-step.result) l.invariant.1 ∙ ap (λ (x : ℕ). file_octets a.asked l.i + x) c.stride-step.ensures ∙ sym (octets_step a.asked l.i),
      member_kept a.asked (get_or a.addresses.now l.i 0) c.channels_at.result l.at l.out _ room q ∙ l.invariant.2,
      member_more a.file.now a.out.now l.out _ a.addresses.now a.asked l.i c.loop-i-test.true c.requires.1 c.requires.0 l.invariant.3
          (q ∙ ap (λ (x : ℕ). laid l.out x (member_octets a.asked (get_or a.addresses.now l.i 0) c.channels_at.result)) l.invariant.1
          ∙ ap (λ (x : ℕ). laid l.out (file_octets a.asked l.i) (member_octets a.asked (get_or a.addresses.now l.i 0) x)) c.channels_at.ensures),
    )

pub returns : goal.returns
returns c =
    let l = c.loop-i in
    let a = c.args in
    let e : l.i ≡ length a.addresses.now = le_antisymm l.invariant.0 c.loop-i-test.false in
    l.invariant.3
    ∙ ap (λ (k : ℕ). laid a.out.now 2 (members_octets a.asked (take k a.addresses.now) (channels_of a.file.now k))) e
    ∙ ap (λ (x : List ℕ). laid a.out.now 2 (members_octets a.asked x (channels_of a.file.now (length a.addresses.now)))) (take-length a.addresses.now)
