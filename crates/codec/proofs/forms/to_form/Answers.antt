-- `forms::to_form` meets its contract: the reader's refusals, then 26, then the file in the form that was asked for.
use mathlib.Core.Path.{◌≡◌, sym, ap, ◌∙◌}
use Prim.Native.Nat.{ℕ}
use native.Mathlib.Omega.{arith}
use borrow.Author.Rules.{rules}
use lib.ListN.{take}
use Rattle.codec.specs.Ring.{count, count_of, file_octets, ring_refusal}
use Rattle.codec.proofs.Laws.Bits.{bits_below}
use Rattle.codec.proofs.Laws.Ring.{HeadGood, head_good, head_passed, few_others, members_laid}
use Rattle.codec.proofs.Laws.Forms.{reader_refuses, form_refuses, form_given, length_formed}
use Rattle.codec.proofs.forms.to_form.Goals as goal
use Rattle.codec.proofs.forms.to_form.Goals.{After-count-n, Else-number-ne0}

pub returns-then-number-ne0 : goal.returns-then-number-ne0
returns-then-number-ne0 c = reader_refuses _ _ _ _ c.read_into-number.ensures.0 c.if-number-ne0.true

-- the file is good
passed : (c : Else-number-ne0) → ring_refusal c.args.file.now ≡ 0
passed c = sym c.read_into-number.ensures.0 ∙ c.if-number-ne0.false

good : (c : Else-number-ne0) → HeadGood c.args.file.now
good c =
    let passed' : ring_refusal c.args.file.now ≡ 0 = sym c.read_into-number.ensures.0 ∙ c.if-number-ne0.false in
    head_good _ (head_passed _ passed')

pub head_of-head-requires : goal.head_of-head-requires
head_of-head-requires c = (good c).long

pub count-n-requires : goal.count-n-requires
count-n-requires c = few_others _ _ c.head_of-head.ensures

-- how many members there are
counted : (c : After-count-n) → c.count-n.result ≡ count c.args.file.now
counted c = c.count-n.ensures ∙ ap count_of c.head_of-head.ensures

pub cannot-requires : goal.cannot-requires
cannot-requires c =
    let g = good (goal.at.cannot-requires c).Else-number-ne0 in
    (c.head_of-head.ensures, (counted c, rw (counted c, g.sized) (omega arith)))

pub returns-then-cannot : goal.returns-then-cannot
returns-then-cannot c =
    form_refuses _ _ _ (passed (goal.at.returns-then-cannot c).Else-number-ne0) (sym c.cannot.ensures ∙ c.if-cannot.true)

pub lay-requires : goal.lay-requires
lay-requires c =
    let file = c.args.file.now in
    let r = c.read_into-number in (
      search rules,
      (
        c.requires.1,
        (
          c.head_of-head.ensures,
          (
            c.members.ensures
                ∙ ap (λ (n : ℕ). take n r.new.addresses) (counted (goal.at.lay-requires c).After-count-n)
                ∙ members_laid file _ r.new.addresses (count file) (r.ensures.1 c.if-number-ne0.false),
            rw (good (goal.at.lay-requires c).Else-number-ne0).sized (omega arith),
          ),
        ),
      ),
    )

pub file_octets-octets-requires : goal.file_octets-octets-requires
file_octets-octets-requires c =
    omega (arith, counted (goal.at.file_octets-octets-requires c).After-count-n, bits_below c.args.file.now 4 6)

pub returns : goal.returns
returns c =
    let a = c.args in
    form_given a.asked a.file.now a.out.now _ _ (passed (goal.at.returns c).Else-number-ne0) (sym c.cannot.ensures ∙ c.if-cannot.false)
    (c.file_octets-octets.ensures ∙ ap (file_octets a.asked) (counted (goal.at.returns c).After-count-n) ∙ sym (length_formed a.asked a.file.now))
    c.lay.ensures
