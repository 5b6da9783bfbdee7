-- `forms::cannot` meets its contract.
use mathlib.Core.Path.{sym, ap, ◌∙◌}
use mathlib.Core.Bool.{not}
use Rattle.codec.proofs.Laws.Forms.{can_1, can_2}
use Rattle.codec.proofs.forms.cannot.Goals as goal

pub returns-then-asked-ne1 : goal.returns-then-asked-ne1
returns-then-asked-ne1 c =
    let a = c.args in
    sym (can_2 a.asked a.file.now c.if-asked-ne1.true)

pub returns : goal.returns
returns c =
    let a = c.args in
    ap not c.is_plain.ensures ∙ sym (can_1 a.asked a.file.now c.if-asked-ne1.false)
