-- `ring::read_into` meets its contract: a head that passes says what the calls require, and the refusals are those of the one order.
use mathlib.Core.Path.{◌≡◌, sym, ap, ◌∙◌}
use Prim.Native.Nat.{ℕ, ◌≤◌}
use native.Mathlib.Omega.{arith}
use lib.ListN.{length}
use Rattle.codec.specs.Octets.{laid}
use Rattle.codec.specs.Ring.{count, count_of, addresses_of, head_refusal, field_refusal, addresses_refusal}
use Rattle.codec.specs.declared.head.HeadBits.{HeadBits}
use Rattle.codec.proofs.Laws.Bits.{bits_below}
use Rattle.codec.proofs.Laws.Ring.{HeadGood, head_good, head_short, head_fields, few_others, refused_early, read_steps}
use Rattle.codec.proofs.ring.read_into.Goals as goal
use Rattle.codec.proofs.ring.read_into.Goals.{After-count-n, After-field_refusal-early, Else-early-ne0}

pub returns-then-file-lt-HEAD : goal.returns-then-file-lt-HEAD
returns-then-file-lt-HEAD c =
    let file = c.args.file.now in
    let short : head_refusal file ≡ 1 = head_short file c.if-file-lt-HEAD.true in
    (sym (refused_early file (λ e. omega (arith, short, e)) ∙ short), λ z. absurd (omega (arith, z)))

pub field_refusal-early-requires : goal.field_refusal-early-requires
field_refusal-early-requires c = few_others _ _ c.head_of-head.ensures

-- the fields' refusal is the head's
early : (c : After-field_refusal-early) → c.field_refusal-early.result ≡ head_refusal c.args.file.now
early c =
    let file = c.args.file.now in
    c.field_refusal-early.ensures
    ∙ ap (λ (h : HeadBits). field_refusal h (length file)) c.head_of-head.ensures
    ∙ sym (head_fields file c.if-file-lt-HEAD.false)

pub returns-then-early-ne0 : goal.returns-then-early-ne0
returns-then-early-ne0 c =
    let e = early (goal.at.returns-then-early-ne0 c).After-field_refusal-early in
    (e ∙ sym (refused_early _ (λ z. c.if-early-ne0.true (e ∙ z))), λ z. absurd (c.if-early-ne0.true z))

good : (c : Else-early-ne0) → HeadGood c.args.file.now
good c =
    let early' : c.field_refusal-early.result ≡ head_refusal c.args.file.now = let file = c.args.file.now in c.field_refusal-early.ensures ∙ ap (λ (h : HeadBits). field_refusal h (length file)) c.head_of-head.ensures ∙ sym (head_fields file c.if-file-lt-HEAD.false) in
    head_good _ (sym early' ∙ c.if-early-ne0.false)

pub count-n-requires : goal.count-n-requires
count-n-requires c = few_others _ _ c.head_of-head.ensures

-- how many members there are
counted : (c : After-count-n) → c.count-n.result ≡ count c.args.file.now
counted c = c.count-n.ensures ∙ ap count_of c.head_of-head.ensures

pub addresses_into-requires : goal.addresses_into-requires
addresses_into-requires c =
    let file = c.args.file.now in
    let n : c.count-n.result ≤ 64 = omega (arith, counted (goal.at.addresses_into-requires c).After-count-n, bits_below file 4 6) in (
      n,
      omega (arith, n, c.requires),
      ap (λ (h : HeadBits). h.form) c.head_of-head.ensures,
      rw (counted (goal.at.addresses_into-requires c).After-count-n, (good (goal.at.addresses_into-requires c).Else-early-ne0).sized) (omega arith),
    )

pub returns : goal.returns
returns c =
    let file = c.args.file.now in
    let l = c.args.addresses.now in (
      read_steps file l c.count-n.result c.addresses_refusal.result c.addresses_into.new.addresses
          (sym (early (goal.at.returns c).After-field_refusal-early) ∙ c.if-early-ne0.false)
          (counted (goal.at.returns c).After-count-n)
          c.addresses_into.ensures
          (c.addresses_refusal.ensures ∙ ap addresses_refusal c.members.ensures),
      λ z. c.addresses_into.ensures ∙ ap (λ (n : ℕ). laid l 0 (addresses_of file n)) (counted (goal.at.returns c).After-count-n),
    )
