use Rattle.std.proofs.Common.{Some, sym, ap, subst, ◌∙◌}
use Rattle.std.specs.Str.Parse.{ParsesUnsigned}
use Rattle.script.proofs.Laws.Numbers.{too_long, no_digits, not_text, in_ok, in_err, parsed}
use Rattle.script.proofs.lines.number_in.Goals as goal
use Rattle.script.proofs.lines.number_in.Goals.{then-word-gt5-via-then-word-gt5, then-word-gt5-via-else-word-gt5+then-not-is_digits}

pub returns-then-word-gt5 : goal.returns-then-word-gt5
returns-then-word-gt5 c =
    let s = c.args.word.now in
    elim c.then-word-gt5.branch [
      | then-word-gt5-via-then-word-gt5 w ↦ too_long s w.if-word-gt5.true
      | then-word-gt5-via-else-word-gt5+then-not-is_digits w ↦ no_digits s (sym w.is_digits.ensures ∙ w.if-not-is_digits.true)
    ]

pub returns-in_err-digits : goal.returns-in_err-digits
returns-in_err-digits c =
    let s = c.args.word.now in
    let d = sym c.is_digits.ensures ∙ c.if-not-is_digits.false in
    absurd (not_text s d (in_err _ _ c.from_utf8.result c.from_utf8.ensures.cases c.in_err-digits.ensures.value).1.0)

pub returns-in_err-number : goal.returns-in_err-number
returns-in_err-number c =
    let s = c.args.word.now in
    let t = in_ok _ _ c.from_utf8.result c.in_ok-digits.digits c.from_utf8.ensures.cases c.in_ok-digits.ensures.value in
    let p = subst (λ w. ParsesUnsigned 16 10 w c.parse.result) t.0 c.parse.ensures.value.0 in
    let d = sym c.is_digits.ensures ∙ c.if-not-is_digits.false in
    c.from_residual-in_err-number.ensures ∙ sym c.in_err-number.was ∙ c.ok-2.ensures.value ∙ parsed s d c.if-word-gt5.false c.parse.result p

pub returns : goal.returns
returns c =
    let s = c.args.word.now in
    let t = in_ok _ _ c.from_utf8.result c.in_ok-digits.digits c.from_utf8.ensures.cases c.in_ok-digits.ensures.value in
    let p = subst (λ w. ParsesUnsigned 16 10 w c.parse.result) t.0 c.parse.ensures.value.0 in
    let d = sym c.is_digits.ensures ∙ c.if-not-is_digits.false in
    ap Some c.from.ensures ∙ sym c.in_ok-number.was ∙ c.ok-2.ensures.value ∙ parsed s d c.if-word-gt5.false c.parse.result p
