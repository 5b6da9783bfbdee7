-- `forms::lay` meets its contract: the head, and then the members.
use mathlib.Core.Path.{ap, ◌∙◌}
use Prim.Native.Nat.{ℕ}
use borrow.Author.Rules.{rules}
use Rattle.codec.specs.Octets.{octets, laid}
use Rattle.codec.proofs.Laws.Forms.{number_is, head_fits, members_fit, members_are, form_laid}
use Rattle.codec.proofs.forms.lay.Goals as goal

pub head_number-number-requires : goal.head_number-number-requires
head_number-number-requires c =
    head_fits c.args.asked c.args.file.now c.args.head c.version_of.result c.last_for-last.result c.requires.1.0 c.requires.1.1.0
    c.version_of.ensures c.last_for-last.ensures

pub put_members-requires : goal.put_members-requires
put_members-requires c =
    let m = members_fit c.args.asked c.args.file.now c.args.addresses.now c.requires.1.1.1.0 c.requires.1.1.1.1 in
    (search rules, m.0, m.1)

pub returns : goal.returns
returns c =
    let a = c.args in
    let is = number_is a.asked a.file.now a.head c.version_of.result c.last_for-last.result c.head_number-number.result c.requires.1.1.0
    c.version_of.ensures c.last_for-last.ensures c.head_number-number.ensures in
    form_laid a.asked a.file.now a.out.now c.put.new.out c.put_members.new.out c.requires.0
    (c.put.ensures ∙ ap (λ (k : ℕ). laid a.out.now 0 (octets 2 k)) is)
    (members_are a.asked a.file.now a.addresses.now c.put.new.out c.put_members.new.out c.requires.1.1.1.0 c.put_members.ensures)
