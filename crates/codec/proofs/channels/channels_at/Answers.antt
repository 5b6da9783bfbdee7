-- `channels::channels_at` meets its contract: in form 2 the octet behind the address.
use mathlib.Core.Path.{◌≡◌, sym, ap, ◌∙◌}
use Prim.Native.Nat.{ℕ, ◌+◌, ◌*◌, ◌≤◌}
use native.Mathlib.Omega.{arith}
use lib.ListN.{length}
use Rattle.codec.specs.Bits.{bits}
use Rattle.codec.specs.Ring.{form, stride, file_octets, member_at}
use Rattle.codec.proofs.Laws.Channels.{all_in, said_in}
use Rattle.codec.proofs.channels.channels_at.Goals as goal
use Rattle.codec.proofs.channels.channels_at.Goals.{After-stride}

pub returns-then-form-ne2 : goal.returns-then-form-ne2
returns-then-form-ne2 c = sym (all_in _ _ (λ e. c.if-form-ne2.true (c.bits-form.ensures.0 ∙ e)))

-- the form is 2, and so a stride is 7 octets
seven : (c : After-stride) → c.stride.result ≡ 7
seven c = c.stride.ensures ∙ ap stride c.if-form-ne2.false

-- the member lies within the file
within : (c : After-stride) → 2 + 7 * c.args.i + 7 ≤ length c.args.file.now
within c =
    let f : form c.args.file.now ≡ 2 = sym c.bits-form.ensures.0 ∙ c.if-form-ne2.false in
    let e : member_at c.args.file.now (c.args.i + 1) ≡ file_octets 2 (c.args.i + 1) = ap (λ (k : ℕ). file_octets k (c.args.i + 1)) f in
    omega (arith, e, c.requires.1)

pub overflow_mul-at : goal.overflow_mul-at
overflow_mul-at c = rw (seven c) (omega (arith, c.requires.0))

pub overflow_add-at : goal.overflow_add-at
overflow_add-at c = rw (seven c) (omega (arith, c.requires.0))

pub overflow_mul-at-2 : goal.overflow_mul-at-2
overflow_mul-at-2 c = rw (seven c) (omega (arith, c.requires.0))

pub overflow_add-at-2 : goal.overflow_add-at-2
overflow_add-at-2 c = rw (seven c) (omega (arith, c.requires.0))

pub bits-requires : goal.bits-requires
bits-requires c = rw (seven c) (omega (arith, within c, c.requires.0))

pub returns : goal.returns
returns c =
    let a = c.args in
    let f : form a.file.now ≡ 2 = sym c.bits-form.ensures.0 ∙ c.if-form-ne2.false in
    let e : c.stride.result ≡ stride (form a.file.now) = c.stride.ensures ∙ ap stride c.bits-form.ensures.0 in
    c.bits.ensures.0 ∙ ap (λ (k : ℕ). bits a.file.now ((2 + k * a.i) * 8 + 48) 8) e ∙ sym (said_in a.file.now a.i f)
